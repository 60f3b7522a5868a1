-- The leaves that keep some of their records were given these, and then the others went: what that comes to.
use Rattle.std.proofs.Common.{List, refl, subst, sym, true, ℕ, ◌+◌, ◌-◌, ◌∙◌, ◌≡◌, ◌++◌, ◌∷◌}
use Rattle.cdf_edits.proofs.Common.{Each, In, Kind, Nodes, VariableShape, leaves_of, number, shape, variable_of, variables, vdr_max_rec, vdr_vxr_head, vdrs}
use Rattle.cdf_edits.proofs.Edits.ActsThen.{taken-gave}
use Rattle.cdf_edits.proofs.Edits.StandsAmong.{in_middle}
use Rattle.cdf_edits.specs.Commands.Deleting.{untouched}
use Rattle.cdf_edits.specs.Commands.PutSteps.{Stage}
use Rattle.cdf_index.proofs.OneVariable.{among_all}
use Rattle.cdf_index.specs.Finding.{index_at}
use Rattle.cdf_cuts.proofs.CutCalls.{index_is}
use Rattle.cdf_cuts.specs.Closing.{closed, closing_acts, freed_closing}
use Rattle.cdf_puts.specs.Going.{GoesOn, found_in}
use Rattle.cdf_packed_deletes.proofs.Chain.{go_more, goes_as}
use Rattle.cdf_packed_deletes.specs.Closing.{PackedClosed, keeping}
use Rattle.cdf_packed_deletes.specs.Keeping.{IsAllOrNone, SomeKept, WholeClosed}
use Rattle.cdf_packed_deletes.specs.Steps.{CutsWhole}

module _ {b mid : List ℕ} {kind : Kind} {before : List VariableShape} {own : VariableShape} {after : List VariableShape} {first last from : ℕ} (k : SomeKept b mid kind before own after first last from) where
  abbrev upto : ℕ
  upto = from + (last - first)

  module _ {vdr : ℕ} (is : own.vdr ≡ vdr) where
    pub vdr_kept : In vdr (vdrs (variables (shape mid)))
    vdr_kept =
        let g = among_all mid kind before k.kept.own after k.among.was in
        subst (λ (vs : List VariableShape). In vdr (vdrs vs)) (sym g.all) (subst (λ (v : ℕ). In v (vdrs (g.front ++ k.kept.own ∷ g.rest))) (k.vdr_is ∙ is) (in_middle g.front k.kept.own g.rest))

    pub whole_kept : Each (IsAllOrNone from upto) (leaves_of (index_at mid (number mid vdr vdr_vxr_head)))
    whole_kept = subst (λ (y : Nodes). Each (IsAllOrNone from upto) (leaves_of y)) (sym (index_is mid k.good k.among (k.vdr_is ∙ is)).1) k.whole

  module _ {now : List ℕ} (w : WholeClosed mid now kind before k.kept.own after from upto) where
    abbrev left : Stage
    left = record { image = now; own = closed k.kept.own from upto; acts = closing_acts mid k.kept.own from upto; next = k.kept.next }

    cuts : CutsWhole (found_in b kind before own) true from upto k.kept left
    cuts = record {
      index = w.cuts (variable_of b own);
      takes_none = taken-gave mid (freed_closing k.kept.own from upto);
      goes = goes_as k.image_is refl (w.goes k.kept.next) k.kept.next;
      next_is = refl;
    }

    goes_on : GoesOn k.kept.image now kind before k.kept.own (closed k.kept.own from upto) after (closing_acts mid k.kept.own from upto)
    goes_on = subst (λ (image : List ℕ). GoesOn image now kind before k.kept.own (closed k.kept.own from upto) after (closing_acts mid k.kept.own from upto)) (sym k.image_is) w.goes_on

    pub all_closed : PackedClosed b now kind before own after first last
    all_closed = record {
      stages = k.stages;
      kept = k.kept;
      left = left;
      keep = k.keep;
      cuts = subst (λ (n : ℕ). CutsWhole (found_in b kind before own) true n (n + (last - first)) k.kept left) k.from_is cuts;
      takes = k.takes;
      go = go_more (found_in b kind before own) true first last kind before after (keeping first last (leaves_of own.index)) (untouched b own) k.stages k.kept left k.keep k.go goes_on;
      now_is = refl;
      max_rec_is = subst (λ (vdr : ℕ). number now vdr vdr_max_rec ≡ number mid vdr vdr_max_rec) k.vdr_is w.max_rec_is ∙ k.max_rec_is;
      r_max_rec_is = w.r_max_rec_is ∙ k.r_max_rec_is;
    }
