use Rattle.std.proofs.Common.{List, [], ap, ap₂, append-nil, append_assoc, arith, length, replicate, subst, sym, ℕ, ◌++◌, ◌+◌, ◌∙◌, ◌∷◌, ◌≡◌}
use Rattle.std.specs.Prelude.{Err, Ok}
use Rattle.cdf_format.specs.NewFile.{magic}
use Rattle.cdf_writer.specs.Bodies.{whole_record}
use Rattle.cdf_writer.specs.Progress.{begun, gdr_rest}
use Rattle.cdf_writer.specs.Stops.{Writes}
use Rattle.cdf_writer.specs.declared.progress.FileState.{FileState}
use Rattle.cdf_writer.proofs.Placed.{words_long}
use Rattle.cdf_writer.proofs.Writing.{writes_both, writes_done, writes_first, writes_handed, writes_typed}
use Rattle.cdf_writer.proofs.opening.begin_file.Goals as goal

pub returns-in_err-append_magic-clause-area : goal.returns-in_err-append_magic-clause-area
returns-in_err-append_magic-clause-area g c =
    let image = g.A.Area.image in
    let frame = g.A.Area.frame in
    let faults = g.A.Area.faults in
    let old = c.args.area.now in
    let new = c.append_magic.new.area in
    let head = c.args.head.now in
    let bodies : List (List ℕ) = (begun head).cdr ∷ (begun head).gdr ∷ [] in
    let e = c.in_err-append_magic.field-0.0 in
    writes_handed image frame faults 8 old new bodies c.from_residual-in_err-append_magic.result e c.from_residual-in_err-append_magic.ensures.1
    (writes_first image frame faults 8 old new [] bodies e c.in_err-append_magic.ensures.area)

pub returns-in_err-append_record-clause-area : goal.returns-in_err-append_record-clause-area
returns-in_err-append_record-clause-area g c =
    let image = g.A.Area.image in
    let frame = g.A.Area.frame in
    let faults = g.A.Area.faults in
    let old = c.args.area.now in
    let mid = c.append_magic.new.area in
    let new = c.append_record.new.area in
    let head = c.args.head.now in
    let cdr : List ℕ = (begun head).cdr in
    let gdr : List ℕ = (begun head).gdr in
    let body = c.deref.ensures.value ∙ c.in_ok-cdr.ensures in
    let e = c.in_err-append_record.field-0.0 in
    writes_handed image frame faults 8 old new (cdr ∷ gdr ∷ []) c.from_residual-in_err-append_record.result e c.from_residual-in_err-append_record.ensures.1
    (writes_first image frame faults 8 old new (cdr ∷ []) (gdr ∷ []) e
    (writes_both image frame faults 8 old mid new [] (cdr ∷ []) tt (Err e) c.in_ok-append_magic.ensures.area
    (subst (λ (b : List ℕ). Writes {T = Unit {0}} image frame faults (length (image mid)) mid new (b ∷ []) (Err e)) body c.in_err-append_record.ensures.area)))

pub returns-in_err-keep_room-clause-area : goal.returns-in_err-keep_room-clause-area
returns-in_err-keep_room-clause-area g c =
    let image = g.A.Area.image in
    let frame = g.A.Area.frame in
    let faults = g.A.Area.faults in
    let old = c.args.area.now in
    let start = c.append_magic.new.area in
    let mid = c.append_record.new.area in
    let new = c.keep_room.new.area in
    let head = c.args.head.now in
    let cdr : List ℕ = (begun head).cdr in
    let gdr : List ℕ = (begun head).gdr in
    let body = c.deref.ensures.value ∙ c.in_ok-cdr.ensures in
    let room : 76 + length c.as_slice.result.now ≡ gdr_rest (length head.rdims) =
    omega (arith, ap length (c.as_slice.ensures ∙ ap (λ (f : FileState). f.dims) c.in_ok-file.ensures), words_long head.rdims) in
    let e = c.in_err-keep_room.field-0.0 in
    writes_handed image frame faults 8 old new (cdr ∷ gdr ∷ []) c.from_residual-in_err-keep_room.result e c.from_residual-in_err-keep_room.ensures.1
    (writes_typed image frame faults 8 old new (cdr ∷ gdr ∷ []) e
    (writes_both image frame faults 8 old mid new (cdr ∷ []) (gdr ∷ []) tt (Err e)
    (writes_both image frame faults 8 old start mid [] (cdr ∷ []) tt (Ok tt) c.in_ok-append_magic.ensures.area
    (subst (λ (b : List ℕ). Writes {T = Unit {0}} image frame faults (length (image start)) start mid (b ∷ []) (Ok tt)) body c.in_ok-append_record.ensures.area))
    (subst (λ (n : ℕ). Writes {T = Unit {0}} image frame faults (length (image mid)) mid new (replicate n 0 ∷ []) (Err e)) room c.in_err-keep_room.ensures.area)))

pub returns-clause-begun : goal.returns-clause-begun
returns-clause-begun g c =
    let head = c.args.head.now in
    let cdr : List ℕ = (begun head).cdr in
    let gdr : List ℕ = (begun head).gdr in
    let body = c.deref.ensures.value ∙ c.in_ok-cdr.ensures in
    let room : 76 + length c.as_slice.result.now ≡ gdr_rest (length head.rdims) =
    omega (arith, ap length (c.as_slice.ensures ∙ ap (λ (f : FileState). f.dims) c.in_ok-file.ensures), words_long head.rdims) in
    let first = c.in_ok-append_record.ensures.appended ∙ ap₂ (λ (x y : List ℕ). x ++ whole_record y) c.in_ok-append_magic.ensures.magic body in
    c.in_ok-keep_room.ensures.appended
    ∙ ap₂ (λ (x : List ℕ) (n : ℕ). x ++ whole_record (replicate n 0)) first room
    ∙ append_assoc magic (whole_record cdr) (whole_record gdr)
    ∙ ap (λ (l : List ℕ). magic ++ (whole_record cdr ++ l)) (sym (append-nil (whole_record gdr)))

pub returns-clause-area : goal.returns-clause-area
returns-clause-area g c =
    let image = g.A.Area.image in
    let frame = g.A.Area.frame in
    let faults = g.A.Area.faults in
    let old = c.args.area.now in
    let start = c.append_magic.new.area in
    let mid = c.append_record.new.area in
    let new = c.keep_room.new.area in
    let head = c.args.head.now in
    let cdr : List ℕ = (begun head).cdr in
    let gdr : List ℕ = (begun head).gdr in
    let body = c.deref.ensures.value ∙ c.in_ok-cdr.ensures in
    let room : 76 + length c.as_slice.result.now ≡ gdr_rest (length head.rdims) =
    omega (arith, ap length (c.as_slice.ensures ∙ ap (λ (f : FileState). f.dims) c.in_ok-file.ensures), words_long head.rdims) in
    writes_done image frame faults 8 old new (cdr ∷ gdr ∷ []) tt c.in_ok-file.file
    (writes_both image frame faults 8 old mid new (cdr ∷ []) (gdr ∷ []) tt (Ok tt)
    (writes_both image frame faults 8 old start mid [] (cdr ∷ []) tt (Ok tt) c.in_ok-append_magic.ensures.area
    (subst (λ (b : List ℕ). Writes {T = Unit {0}} image frame faults (length (image start)) start mid (b ∷ []) (Ok tt)) body c.in_ok-append_record.ensures.area))
    (subst (λ (n : ℕ). Writes {T = Unit {0}} image frame faults (length (image mid)) mid new (replicate n 0 ∷ []) (Ok tt)) room c.in_ok-keep_room.ensures.area))
