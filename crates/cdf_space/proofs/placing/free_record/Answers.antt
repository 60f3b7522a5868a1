use Rattle.cdf_space.proofs.Common.{IsGiven, Relinked, ap, arith, cdr_room, inl, inr, length, on_ok_weaker, record_type, shape, size_at, subst, sym, uir_type, with_field, ℕ, ◌+◌, ◌<◌, ◌^◌, ◌∙◌, ◌≤◌}
use Rattle.cdf_space.proofs.Freeing.{ends, long, gdr_ends, head_lies, head_from_gdr, head_small, freed_small, freed_first, size_read, gdr_read, head_read}
use Rattle.cdf_space.proofs.placing.free_record.Goals as goal

pub read_unsigned8-requires : goal.read_unsigned8-requires
read_unsigned8-requires g c =
    let b = g.A.Area.image c.args.area.now in
    let e = ends b (shape b) c.args.place c.requires.sound c.requires.stands c.requires.free in
    let l = long b (shape b) c.args.place c.requires.sound c.requires.stands c.requires.free in
    omega arith

pub read_unsigned8-requires-2 : goal.read_unsigned8-requires-2
read_unsigned8-requires-2 g c =
    let b = g.A.Area.image c.args.area.now in
    let room = cdr_room b c.requires.sound in
    let same = ap length c.in_ok-size.ensures.area.image in
    omega arith

gdr_room : (g : _) (c : goal.After-read_unsigned8-arg-3-1 g) → c.in_ok-gdr.gdr + 84 ≤ length (g.A.Area.image c.args.area.now)
gdr_room g c =
    let b = g.A.Area.image c.args.area.now in
    let is = gdr_read b (g.A.Area.image c.read_unsigned8.new.area) c.in_ok-gdr.gdr c.requires.sound c.in_ok-size.ensures.area.image c.in_ok-gdr.ensures.value in
    let e = gdr_ends b (shape b) c.args.place c.requires.sound c.requires.stands c.requires.free in
    omega arith

pub overflow_add-gdr : goal.overflow_add-gdr
overflow_add-gdr g c =
    let room = gdr_room g c in
    let length_is = c.size-length.ensures in
    let short = c.size-length.type_inv in
    omega arith

pub read_unsigned8-requires-3 : goal.read_unsigned8-requires-3
read_unsigned8-requires-3 g c =
    let room = gdr_room g c in
    let same = ap length (c.in_ok-gdr.ensures.area.image ∙ c.in_ok-size.ensures.area.image) in
    omega arith

pub set_record_type-requires : goal.set_record_type-requires
set_record_type-requires g c =
    let b = g.A.Area.image c.args.area.now in
    let e = ends b (shape b) c.args.place c.requires.sound c.requires.stands c.requires.free in
    let l = long b (shape b) c.args.place c.requires.sound c.requires.stands c.requires.free in
    let same = ap length (c.in_ok-next.ensures.area.image ∙ c.in_ok-gdr.ensures.area.image ∙ c.in_ok-size.ensures.area.image) in
    omega arith

small_given : (g : _) (c : goal.Then-size-lt-LINKED_SIZE g) → IsGiven (g.A.Area.image c.args.area.now) (g.A.Area.image c.set_record_type.new.area) (shape (g.A.Area.image c.args.area.now)) (shape (g.A.Area.image c.set_record_type.new.area)) c.args.place
small_given g c =
    let b = g.A.Area.image c.args.area.now in
    let now = g.A.Area.image c.set_record_type.new.area in
    let same = c.in_ok-next.ensures.area.image ∙ c.in_ok-gdr.ensures.area.image ∙ c.in_ok-size.ensures.area.image in
    let size = size_read b c.args.place c.in_ok-size.size c.in_ok-size.ensures.value in
    let less = c.if-size-lt-LINKED_SIZE.true in
    freed_small b (shape b) c.args.place c.requires.sound c.requires.stands c.requires.free now (subst (λ (n : ℕ). n < 28) size less) (c.in_ok-set_record_type.ensures.ok ∙ ap (λ x. with_field x c.args.place record_type uir_type) same)

pub returns-then-size-lt-LINKED_SIZE-clause-gives : goal.returns-then-size-lt-LINKED_SIZE-clause-gives
returns-then-size-lt-LINKED_SIZE-clause-gives g c = (small_given g c).0

pub returns-then-size-lt-LINKED_SIZE-clause-sound : goal.returns-then-size-lt-LINKED_SIZE-clause-sound
returns-then-size-lt-LINKED_SIZE-clause-sound g c = (small_given g c).1

pub returns-then-size-lt-LINKED_SIZE-clause-content : goal.returns-then-size-lt-LINKED_SIZE-clause-content
returns-then-size-lt-LINKED_SIZE-clause-content g c = (small_given g c).2

pub set_uir_next_uir-requires : goal.set_uir_next_uir-requires
set_uir_next_uir-requires g c =
    let b = g.A.Area.image c.args.area.now in
    let e = ends b (shape b) c.args.place c.requires.sound c.requires.stands c.requires.free in
    let size = size_read b c.args.place c.in_ok-size.size c.in_ok-size.ensures.value in
    let large = c.if-size-lt-LINKED_SIZE.false in
    let same = ap length (c.in_ok-next.ensures.area.image ∙ c.in_ok-gdr.ensures.area.image ∙ c.in_ok-size.ensures.area.image) in
    let long1 = c.in_ok-set_record_type.ensures.area.size in
    omega arith

pub set_uir_prev_uir-requires : goal.set_uir_prev_uir-requires
set_uir_prev_uir-requires g c =
    let b = g.A.Area.image c.args.area.now in
    let e = ends b (shape b) c.args.place c.requires.sound c.requires.stands c.requires.free in
    let size = size_read b c.args.place c.in_ok-size.size c.in_ok-size.ensures.value in
    let large = c.if-size-lt-LINKED_SIZE.false in
    let same = ap length (c.in_ok-next.ensures.area.image ∙ c.in_ok-gdr.ensures.area.image ∙ c.in_ok-size.ensures.area.image) in
    let long1 = c.in_ok-set_record_type.ensures.area.size in
    let long2 = c.in_ok-set_uir_next_uir.ensures.area.size in
    omega arith

pub overflow_add-head : goal.overflow_add-head
overflow_add-head g c =
    let b = g.A.Area.image c.args.area.now in
    let is = gdr_read b (g.A.Area.image c.read_unsigned8.new.area) c.in_ok-gdr.gdr c.requires.sound c.in_ok-size.ensures.area.image c.in_ok-gdr.ensures.value in
    let room = gdr_ends b (shape b) c.args.place c.requires.sound c.requires.stands c.requires.free in
    let length_is = c.size-length.ensures in
    let short = c.size-length.type_inv in
    omega arith

pub relink-requires-clause-link : goal.relink-requires-clause-link
relink-requires-clause-link g c =
    let b = g.A.Area.image c.args.area.now in
    let is = gdr_read b (g.A.Area.image c.read_unsigned8.new.area) c.in_ok-gdr.gdr c.requires.sound c.in_ok-size.ensures.area.image c.in_ok-gdr.ensures.value in
    let room = gdr_ends b (shape b) c.args.place c.requires.sound c.requires.stands c.requires.free in
    let same = ap length (c.in_ok-next.ensures.area.image ∙ c.in_ok-gdr.ensures.area.image ∙ c.in_ok-size.ensures.area.image) in
    let long1 = c.in_ok-set_record_type.ensures.area.size in
    let long2 = c.in_ok-set_uir_next_uir.ensures.area.size in
    let long3 = c.in_ok-set_uir_prev_uir.ensures.area.size in
    omega arith

pub relink-requires-clause-next : goal.relink-requires-clause-next
relink-requires-clause-next g c = λ some.
    let b = g.A.Area.image c.args.area.now in
    let is = gdr_read b (g.A.Area.image c.read_unsigned8.new.area) c.in_ok-gdr.gdr c.requires.sound c.in_ok-size.ensures.area.image c.in_ok-gdr.ensures.value in
    let next = head_read b (g.A.Area.image c.read_unsigned8-2.new.area) c.in_ok-gdr.gdr c.in_ok-next.next is (c.in_ok-gdr.ensures.area.image ∙ c.in_ok-size.ensures.area.image) c.in_ok-next.ensures.value in
    let lies = head_lies b (shape b) c.args.place c.requires.sound c.requires.stands c.requires.free (λ z. some (next ∙ z)) in
    let same = ap length (c.in_ok-next.ensures.area.image ∙ c.in_ok-gdr.ensures.area.image ∙ c.in_ok-size.ensures.area.image) in
    let long1 = c.in_ok-set_record_type.ensures.area.size in
    let long2 = c.in_ok-set_uir_next_uir.ensures.area.size in
    let long3 = c.in_ok-set_uir_prev_uir.ensures.area.size in
    omega arith

pub relink-requires-clause-apart : goal.relink-requires-clause-apart
relink-requires-clause-apart g c = λ some.
    let b = g.A.Area.image c.args.area.now in
    let is = gdr_read b (g.A.Area.image c.read_unsigned8.new.area) c.in_ok-gdr.gdr c.requires.sound c.in_ok-size.ensures.area.image c.in_ok-gdr.ensures.value in
    let next = head_read b (g.A.Area.image c.read_unsigned8-2.new.area) c.in_ok-gdr.gdr c.in_ok-next.next is (c.in_ok-gdr.ensures.area.image ∙ c.in_ok-size.ensures.area.image) c.in_ok-next.ensures.value in
    elim (head_from_gdr b (shape b) c.args.place c.requires.sound c.requires.stands c.requires.free (λ z. some (next ∙ z))) [ inl x ↦ inl (omega arith) | inr x ↦ inr (omega arith) ]

first_given : (g : _) (c : goal.After-relink g) → Relinked (g.A.Area.image c.set_uir_prev_uir.new.area) (g.A.Area.image c.relink.new.area) (record { link = c.in_ok-gdr.gdr + 64; before = 0; place = c.args.place; size = c.in_ok-size.size; next = c.in_ok-next.next }) c.args.place c.args.place
    → IsGiven (g.A.Area.image c.args.area.now) (g.A.Area.image c.relink.new.area) (shape (g.A.Area.image c.args.area.now)) (shape (g.A.Area.image c.relink.new.area)) c.args.place
first_given g c w =
    let b = g.A.Area.image c.args.area.now in
    let same = c.in_ok-next.ensures.area.image ∙ c.in_ok-gdr.ensures.area.image ∙ c.in_ok-size.ensures.area.image in
    let is = gdr_read b (g.A.Area.image c.read_unsigned8.new.area) c.in_ok-gdr.gdr c.requires.sound c.in_ok-size.ensures.area.image c.in_ok-gdr.ensures.value in
    let next = head_read b (g.A.Area.image c.read_unsigned8-2.new.area) c.in_ok-gdr.gdr c.in_ok-next.next is (c.in_ok-gdr.ensures.area.image ∙ c.in_ok-size.ensures.area.image) c.in_ok-next.ensures.value in
    let size = size_read b c.args.place c.in_ok-size.size c.in_ok-size.ensures.value in
    let short : length b < 2 ^ 64 = let l = c.size-length.ensures in let t = c.size-length.type_inv in omega arith in
    let small : c.in_ok-next.next < 2 ^ 64 = subst (λ n. n < 2 ^ 64) (sym next) (head_small b (shape b) c.args.place c.requires.sound c.requires.stands c.requires.free short) in
    let large : 28 ≤ size_at b c.args.place = let l = c.if-size-lt-LINKED_SIZE.false in omega arith in
    freed_first b (shape b) c.args.place c.requires.sound c.requires.stands c.requires.free (g.A.Area.image c.set_record_type.new.area) (g.A.Area.image c.set_uir_next_uir.new.area) (g.A.Area.image c.set_uir_prev_uir.new.area) (g.A.Area.image c.relink.new.area) _
    large c.ranges.place.fits small (ap (λ n. n + 64) is) next (c.in_ok-set_record_type.ensures.ok ∙ ap (λ x. with_field x c.args.place record_type uir_type) same) c.in_ok-set_uir_next_uir.ensures.ok c.in_ok-set_uir_prev_uir.ensures.ok w

pub returns-clause-gives : goal.returns-clause-gives
returns-clause-gives g c = on_ok_weaker _ (λ w. (first_given g c w).0) c.relink.ensures.relinked

pub returns-clause-sound : goal.returns-clause-sound
returns-clause-sound g c = on_ok_weaker _ (λ w. (first_given g c w).1) c.relink.ensures.relinked

pub returns-clause-content : goal.returns-clause-content
returns-clause-content g c = on_ok_weaker _ (λ w. (first_given g c w).2) c.relink.ensures.relinked
