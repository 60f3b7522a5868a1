-- What the calls of the removal of a variable come to, by the places of the VDRs of its kind and its number.
use Rattle.cdf_edits.proofs.Common.{AllGiven, AreFree, Chain, Good, Hold, HolderStands, In, IsSound, Kind, LiesIn, List, Lists, R, RemovesVariable, TakenOut, UnlinksVariable, VariableShape, Z, ap, arith, count_of, counted_in, drop, empty_writes, freed_with_variable, gdr_offset, gdr_r_max_rec, get_or, good_by_its_shape, good_is_sound, greatest_at, image_limit, length, linkable-in, linkable-type, number, numbers_on, r_max_writes, refl, remove, shape, shapes_of, subst, sym, tile_lies, type_in, variables_chain, vdr_name, vdrs, with_writes, write, ℕ, ℤ, ◌++◌, ◌+◌, ◌<◌, ◌∙◌, ◌∷◌, ◌≡◌, ◌≤◌}
use Rattle.cdf_edits.proofs.Edits.Common.{AtNumber, at_number, got_in, IsOf, few_members, lists, gdr_place, gdr_in, gdr_long, fixed_long, least_size, as_long, e_early, counted_before, kind_chain, vdrs_rows, out_counted}
use Rattle.cdf_edits.proofs.Edits.UnlinkedVariable.{emptied_free, emptied_sound, in_holder, leaves, leaving_tests}
use Rattle.cdf_edits.proofs.Space.ChainHeads.{cdr_room}

count_of_rows : (kind : Kind) (b ms : List ℕ) → Hold (vdrs_rows kind b ms) → number b (gdr_offset b) (count_of (variables_chain kind)) ≡ length ms
count_of_rows kind b ms h = grind arith

holder_is_gdr : (kind : Kind) (b : List ℕ) → HolderStands b (variables_chain kind)
holder_is_gdr kind b = grind arith

module _ (b : List ℕ) (good : Good b) (kind : Kind) (places : List ℕ) (are : places ≡ vdrs (shapes_of (shape b) kind)) where
  sound : IsSound b (shape b)
  sound = good_is_sound b good

  -- a VDR of the kind lies in the image up to Name
  pub inside : (m : ℕ) → In m places → m + 84 + 256 ≤ length b
  inside m i =
      let type = type_in (variables_chain kind) in
      let h = sound.has_shape in
      let ok = (kind_chain kind h).linkable m (subst (In m) are i) in
      let tile = linkable-in b (shape b).records type m ok in
      let long = fixed_long b (shape b) h type m tile (linkable-type b (shape b).records type m ok) in
      let least = least_size kind in
      let high = (tile_lies b 8 (length b) (shape b).records m h.tiled tile).high in
      omega arith

  of_kind : IsOf b (shape b) (variables_chain kind) (shape b).gdr (vdrs (shapes_of (shape b) kind))
  of_kind = record { holder_is = in_holder kind b ∙ sound.has_shape.gdr_is; chain = kind_chain kind sound.has_shape }

  -- the chain, as a call asks for it
  pub variables_listed : {x : List ℕ} → x ≡ b → {c : Chain} → c ≡ variables_chain kind → Lists x c places
  variables_listed {x = x} same {c = c} is =
      let count : counted_in b (variables_chain kind) ≡ length places = ap (λ (g : ℕ). number b g (count_of (variables_chain kind))) (in_holder kind b) ∙ count_of_rows kind b (vdrs (shapes_of (shape b) kind)) (counted_before (good_by_its_shape b good) kind) ∙ ap length (sym are) in
      let here : Lists b (variables_chain kind) places = lists sound.has_shape of_kind (holder_is_gdr kind b) are count in
      subst (λ (pair : List ℕ × Chain). Lists pair.0 pair.1 places) (λ i. (sym same i, sym is i)) here

  -- there are few
  pub few : length b ≤ image_limit → length places ≤ image_limit
  few short = let f = few_members sound.has_shape of_kind short in let l = ap length are in omega arith

  module _ (n : ℕ) (lt : n < length places) where
    abbrev pub this : AtNumber (λ (v : VariableShape). v.vdr) (shapes_of (shape b) kind) places n
    this = at_number (λ (v : VariableShape). v.vdr) (shapes_of (shape b) kind) places are n lt

    -- it was taken out of the chain, in an image that is the same
    module _ (short : length b ≤ image_limit) {x less : List ℕ} (same : x ≡ b) {c : Chain} (is : c ≡ variables_chain kind) (taken : TakenOut x less c (get_or places n 0)) where
      out : TakenOut b less (variables_chain kind) this.own.vdr
      out = subst (TakenOut b less (variables_chain kind)) this.own_at (subst (λ (pair : List ℕ × Chain). TakenOut pair.0 less pair.1 (get_or places n 0)) (λ i. (same i, is i)) taken)

      -- whatever is written after it
      abbrev counted_and_numbered : List ℕ
      counted_and_numbered = with_writes out.first (write (shape b).gdr (count_of (variables_chain kind)) (length this.before + length this.after) ∷ numbers_on (length this.before) (vdrs this.after))

      abbrev u : {mid : List ℕ} → mid ≡ with_writes counted_and_numbered (r_max_writes kind (shape b).gdr (greatest_at b (vdrs (this.before ++ this.after)))) → UnlinksVariable b mid kind this.before this.own this.after
      u written = record { was = this.is; first = out.first; removed = out.removed; second = counted_and_numbered; numbered = refl; written = written; few = (let f = few short in let l = this.long in omega arith) }

      -- the numbers lie in what the count leaves
      pub lie_after : (m : ℕ) → In m places → m + 84 + 256 ≤ length less
      lie_after m i = let l = inside m i in let e = out.length_stays in omega arith

      module _ {second : List ℕ} (numbered : second ≡ with_writes less (numbers_on n (drop (n + 1) places))) where
        second_are : second ≡ counted_and_numbered
        second_are = numbered ∙ (let counted = out_counted of_kind (variables_listed refl refl) this.long out in λ i. with_writes (counted i) (numbers_on (sym this.count i) (this.later_at i)))

        place_second : gdr_offset second ≡ (shape b).gdr
        place_second = ap gdr_offset second_are ∙ gdr_place sound (e_early (leaves good (u refl))) (leaving_tests kind (shape b).gdr (vdrs (shapes_of (shape b) kind)) (vdrs this.after)).early_file

        long_second : length b ≤ length second
        long_second = let l = (e_early (leaves good (u refl))).longer in let e = ap length second_are in omega arith

        pub cdr_second : 28 ≤ length second
        cdr_second = let i = cdr_room b sound in let l = long_second in omega arith

        pub field_second : LiesIn second (gdr_offset second) gdr_r_max_rec
        field_second =
            let long = gdr_long b (shape b) sound.has_shape in
            let high = (tile_lies b 8 (length b) (shape b).records (shape b).gdr sound.has_shape.tiled (gdr_in b (shape b) sound.has_shape)).high in
            let l = long_second in
            let p = place_second in
            omega arith

        module _ {mid : List ℕ} {greatest : ℤ} (greatest_is : kind ≡ R → greatest ≡ greatest_at b (remove places n)) (written : mid ≡ with_writes second (r_max_writes kind (gdr_offset second) greatest)) where
          by_kind : (k : Kind) → (k ≡ R → greatest ≡ greatest_at b (vdrs (this.before ++ this.after))) → r_max_writes k (shape b).gdr greatest ≡ r_max_writes k (shape b).gdr (greatest_at b (vdrs (this.before ++ this.after)))
          by_kind R is = ap (r_max_writes R (shape b).gdr) (is refl)
          by_kind Z is = refl

          unlinks : UnlinksVariable b mid kind this.before this.own this.after
          unlinks = u (written ∙ (λ i. with_writes (second_are i) (r_max_writes kind (place_second i) greatest)) ∙ ap (with_writes counted_and_numbered) (by_kind kind (λ e. greatest_is e ∙ ap (greatest_at b) this.others_are)))

          -- its VDR lies there as before
          pub lies_mid : LiesIn mid (get_or places n 0) vdr_name
          lies_mid = let l = inside (get_or places n 0) (got_in places n lt) in let e = as_long (leaves good unlinks) in omega arith

          -- then its records can be freed, and once they are it is removed
          pub record Emptied (left records : List ℕ) : Type 0 where
            pub sound : IsSound left (shape left)
            pub free : AreFree left records
            pub removes : (now : List ℕ) → AllGiven left now records → RemovesVariable b now kind n

          pub emptied_by : {left records : List ℕ} → left ≡ with_writes mid (empty_writes (get_or places n 0)) → records ≡ freed_with_variable this.own → Emptied left records
          emptied_by emptied are =
              let left_is = emptied ∙ ap (λ (vdr : ℕ). with_writes mid (empty_writes vdr)) this.own_at in
              record {
                sound = subst (λ (x : List ℕ). IsSound x (shape x)) (sym left_is) (emptied_sound good unlinks);
                free = subst (λ (pair : List ℕ × List ℕ). AreFree pair.0 pair.1) (λ i. (sym left_is i, sym are i)) (emptied_free good unlinks);
                removes = λ now given. record { before = this.before; own = this.own; after = this.after; count = this.count; mid = mid; unlinks = unlinks; given = subst (λ (pair : List ℕ × List ℕ). AllGiven pair.0 now pair.1) (λ i. (left_is i, are i)) given };
              }
