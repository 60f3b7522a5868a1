-- The block of a leaf that has records before a first one and this one too was given those before alone, or there is no such leaf: then all from this one on may be cut, and that is what a put under a rule cuts first.
use Rattle.std.proofs.Common.{List, inl, inr, length, refl, subst, sym, true, ℕ, ◌∙◌, ◌≡◌, ◌≤◌, ◌++◌, ◌∷◌}
use Rattle.cdf_edits.proofs.Common.{Each, Good, In, Kind, Leaf, Nodes, VariableShape, image_limit, is_compressed, leaves_of, number, shape, variables, vdr_vxr_head, vdrs}
use Rattle.cdf_edits.proofs.Edits.LeafPieces.{IsOneOf, each_of}
use Rattle.cdf_edits.proofs.Edits.StandsAmong.{StandsAmong, in_middle}
use Rattle.cdf_index.proofs.OneVariable.{among_all}
use Rattle.cdf_index.specs.Finding.{index_at}
use Rattle.cdf_cuts.proofs.CutCalls.{index_is}
use Rattle.cdf_cuts.specs.Past.{EndCut, EndsOrGoes, PlainOrUncut, cut_off}
use Rattle.cdf_packed_cuts.proofs.AtOnce.{past_at_once}
use Rattle.cdf_packed_cuts.proofs.TwoPast.{past_in_two}
use Rattle.cdf_packed_cuts.proofs.TwoSteps.{none_split}
use Rattle.cdf_packed_cuts.specs.Past.{PackedPast}
use Rattle.cdf_packed_cuts.specs.Splitting.{FrontKept, LeafSplit}

-- the image with the variable from which the records may be cut now, and what that comes to
pub record MayCut (b mid : List ℕ) (kind : Kind) (before : List VariableShape) (own : VariableShape) (after : List VariableShape) (first : ℕ) : Type 0 where
  pub own' : VariableShape
  pub vdr_is : own'.vdr ≡ own.vdr
  pub good : Good mid
  pub among : StandsAmong mid kind before own' after
  pub small : length mid ≤ image_limit
  pub uncut : Each (PlainOrUncut first) (leaves_of own'.index)
  pub past : {now : List ℕ} → EndCut mid now kind before own' (cut_off own' first) after first → PackedPast b now kind before own after first

module _ {b : List ℕ} {kind : Kind} {before : List VariableShape} {own : VariableShape} {after : List VariableShape} {first : ℕ} (good : Good b) (at : StandsAmong b kind before own after) (rle : is_compressed b own.vdr ≡ true) (short : length b ≤ image_limit) where
  none_cut : ((l : Leaf) → IsOneOf (leaves_of own.index) l → EndsOrGoes first l) → MayCut b b kind before own after first
  none_cut uncut = record {
    own' = own;
    vdr_is = refl;
    good = good;
    among = at;
    small = short;
    uncut = each_of (PlainOrUncut first) (leaves_of own.index) (λ l i. inr (uncut l i));
    past = λ e. past_at_once good at uncut e;
  }

  one_cut : {mid : List ℕ} → LeafSplit b mid kind before own after first → MayCut b mid kind before own after first
  one_cut x = let f = x.front in record {
    own' = f.short.own';
    vdr_is = f.short.goes_on.vdr_is;
    good = f.short.goes_on.good;
    among = f.short.goes_on.among;
    small = f.short.small;
    uncut = none_split good at x.one f.short x.split f.last_is;
    past = λ e. past_in_two (record {
      good = good;
      among = at;
      rle = rle;
      one = x.one;
      split = x.split;
      first_is = f.first_is;
      last_is = f.last_is;
      plain_is = f.plain_is;
      long = f.long;
      short = f.short;
      cut = e;
    });
  }

  pub may_cut : {mid : List ℕ} → FrontKept b mid kind before own after first → MayCut b mid kind before own after first
  may_cut (inl x) = subst (λ (y : List ℕ). MayCut b y kind before own after first) (sym x.0) (none_cut x.1)
  may_cut (inr x) = one_cut x

-- ---- what the cut asks for

module _ {b mid : List ℕ} {kind : Kind} {before : List VariableShape} {own : VariableShape} {after : List VariableShape} {first vdr : ℕ} (m : MayCut b mid kind before own after first) (is : own.vdr ≡ vdr) where
  pub vdr_there : In vdr (vdrs (variables (shape mid)))
  vdr_there =
      let g = among_all mid kind before m.own' after m.among.was in
      subst (λ (vs : List VariableShape). In vdr (vdrs vs)) (sym g.all) (subst (λ (v : ℕ). In v (vdrs (g.front ++ m.own' ∷ g.rest))) (m.vdr_is ∙ is) (in_middle g.front m.own' g.rest))

  pub uncut_there : Each (PlainOrUncut first) (leaves_of (index_at mid (number mid vdr vdr_vxr_head)))
  uncut_there = subst (λ (y : Nodes). Each (PlainOrUncut first) (leaves_of y)) (sym (index_is mid m.good m.among (m.vdr_is ∙ is)).1) m.uncut
