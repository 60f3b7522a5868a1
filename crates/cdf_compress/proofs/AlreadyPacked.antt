-- A variable has parameters already, and is to be packed: where nothing changes, packing is turned on.
use Rattle.cdf_edits.proofs.Common.{ActsFollow, Bool, Field, FreedStay, Good, HasShape, In, Kind, List, Stays, VariableShape, [], ap, arith, cdr_type, content, cpr_link, eqb-true, has_bit, is_a-in, is_compressed, length, linkable-in, no_fields, number, refl, shape, shapes_of, subst, sym, tile_lies, true, uir_type, variable_of, variables_of, vdr_flags, with_variable, with_variables, ℕ, ◌%◌, ◌/◌, ◌∙◌, ◌∷◌, ◌≡◌, inl, inr}
use Rattle.cdf_edits.proofs.Commands.KeptRecords.{Stood}
use Rattle.cdf_edits.proofs.Edits.Common.{StandsAmong, after_ours, all_attributes_in, behind_in, cpr_behind, gdr_in, has, kind_ours, no_acts, other_kind, sound, tile, variables_in}
use Rattle.cdf_edits.proofs.Edits.StandsAmong.{ours}
use Rattle.cdf_edits.specs.Commands.Cuts.{cpr_acts}
use Rattle.cdf_puts.proofs.GoesThen.{variable_there}
use Rattle.cdf_puts.specs.Going.{IsOther, found_in}
use Rattle.cdf_cuts.proofs.PastContent.{same_set, same_variables}
use Rattle.cdf_compress.specs.Repacking.{Repacked, packed_flags}

-- ---- the bit of packing is there

quotient : (n : ℕ) → has_bit n 2 ≡ true → n / 4 % 2 ≡ 1
quotient n e = eqb-true (n / 4 % 2) 1 e

same_flags : (n : ℕ) → has_bit n 2 ≡ true → n ≡ packed_flags n true
same_flags n e = let q = quotient n e in omega (arith, q)

-- ---- nothing changes

module _ {b : List ℕ} {kind : Kind} {before : List VariableShape} {own : VariableShape} {after : List VariableShape} (good : Good b) (at : StandsAmong b kind before own after) (packed : is_compressed b own.vdr ≡ true) where
  h : HasShape b (shape b)
  h = (sound good at).has_shape

  stays : (m : ℕ) (fs : List Field) → In m (shape b).records → Stays b b m fs
  stays m fs i = record { stands = i; size_is = refl; same = λ n lt out. refl }

  stood : (m : ℕ) → In m (shape b).records → Stood b b m
  stood m i = let t = tile_lies b 8 (length b) (shape b).records m h.tiled i in record { stands = i; whole = record { same = record { each = λ n low high. refl }; inside = t.high; long = t.long } }

  listed_in : (m : ℕ) → In m (shape b).unused → In m (shape b).records
  listed_in m i = linkable-in b (shape b).records uir_type m (h.unused_chain.linkable m i)

  other_in : (m : ℕ) → IsOther (shape b).attributes before after (shapes_of (shape b) (other_kind kind)) m → In m (shape b).records
  other_in m (inl e) = subst (λ (x : ℕ). In x (shape b).records) (sym e) (is_a-in b (shape b).records cdr_type 8 h.cdr_stands)
  other_in m (inr (inl i)) = all_attributes_in (sound good at) m i
  other_in m (inr (inr (inl i))) = variables_in b (shape b) (sound good at) m ((ours good at).0.sub m i)
  other_in m (inr (inr (inr (inl i)))) = variables_in b (shape b) (sound good at) m ((after_ours good at).sub m i)
  other_in m (inr (inr (inr (inr i)))) = variables_in b (shape b) (sound good at) m ((kind_ours b (shape b) (sound good at) (other_kind kind)).sub m i)

  mine : own.cpr ≡ cpr_link b own.vdr ∷ []
  mine = sym (has good at).packed_by ∙ rw packed refl

  no_act : cpr_acts b true own.cpr own.cpr ≡ []
  no_act = ap (λ (xs : List ℕ). cpr_acts b true xs own.cpr) mine

  none : ActsFollow b b []
  none = no_acts b b h (record { records = refl; list = refl; long = refl; size = λ m i. refl; type = λ m i. refl; back = λ m i. refl })

  content_is : content b ≡ with_variable (content b) (found_in b kind before own) (record (variable_of b own) { rle = true })
  content_is =
      sym (ap (with_variables (content b) kind) (same_set (variables_of (content b) kind) (length before) (variable_of b own) (variable_there good at)) ∙ same_variables (content b) kind)
      ∙ ap (λ (rle : Bool). with_variable (content b) (found_in b kind before own) (record (variable_of b own) { rle = rle })) packed

  pub already_packed : Repacked b b kind before own after true own.cpr
  already_packed = record {
    good = good;
    among = at;
    gdr_is = refl;
    attributes_are = refl;
    others_are = refl;
    content_is = content_is;
    longer = omega arith;
    within = omega arith;
    follow = subst (ActsFollow b b) (sym no_act) none;
    gdr = stays (shape b).gdr _ (gdr_in b (shape b) h);
    descriptor = stays own.vdr _ (tile good at);
    cpr_stays = λ e m i. stood m (behind_in good at m (cpr_behind own m i));
    stay = λ m i. stood m (other_in m i);
    listed = λ m i free. stays m _ (listed_in m i);
    loose = λ m i is out. stays m _ i;
    freed = subst (FreedStay b b no_fields) (sym no_act) tt;
    flags_are = same_flags (number b own.vdr vdr_flags) packed;
    cpr_says = λ e. absurd (some (sym e ∙ mine));
    link_is = λ e. absurd cc;
  }
    where
      some : [] ≡ cpr_link b own.vdr ∷ [] → ⊥
      some e = absurd cc
