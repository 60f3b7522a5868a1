-- One cut of a packed variable after which later records keep their numbers: all that it leaves.
use Rattle.std.proofs.Common.{List, None, Option, Some, [], ap, append_assoc, arith, false, length, map, refl, subst, suc, sym, true, zero, ℕ, ◌++◌, ◌+◌, ◌∙◌, ◌∷◌, ◌≡◌, ◌≤◌, ◌==◌}
use Rattle.std.specs.Prelude.{if◌then◌else◌}
use Rattle.std.specs.List.{flat_map, sum}
use Rattle.cdf_edits.proofs.Common.{Act, Good, Kind, Leaf, Nodes, Range, Took, VariableShape, image_limit, is_compressed, leaves_of, number, range, record_bytes, shape, variable_of, vdr_max_rec, vdr_vxr_head, vxr_bytes}
use Rattle.cdf_edits.proofs.Edits.ActsThen.{taken-gave}
use Rattle.cdf_edits.proofs.Edits.Common.{StandsAmong, fits, has}
use Rattle.cdf_edits.proofs.Index.OneDescent.{grown_is}
use Rattle.cdf_edits.specs.Commands.Deleting.{untouched}
use Rattle.cdf_edits.specs.Commands.PutSteps.{BlockWritten, Stage}
use Rattle.cdf_edits.specs.Commands.Room.{widest}
use Rattle.cdf_edits.specs.Index.Grown.{new_room, split_off}
use Rattle.cdf_edits.specs.Index.Written.{block_need}
use Rattle.cdf_index.specs.Adding.{leaf_acts}
use Rattle.cdf_index.specs.Finding.{index_at}
use Rattle.cdf_cuts.proofs.CutCalls.{index_is}
use Rattle.cdf_packed_deletes.proofs.Chain.{acts_more, goes_as}
use Rattle.cdf_packed_deletes.proofs.OpenWhole.{cuts_whole, go_left, has_later, is_later, left, long_so, wide_so}
use Rattle.cdf_packed_deletes.specs.OpenKeeping.{HasLater, IsLater, LaterIs, SomeOpened, SplitsLater, WholeOpened, freed_opening, opened_up}
use Rattle.cdf_packed_deletes.specs.Opening.{PackedOpened, keeping_open, keeping_open_room, opening_room, split_room, split_stage}
use Rattle.cdf_packed_deletes.specs.Steps.{SplitLast, SplitsOff, bytes_of_parts, with_both}
use Rattle.cdf_packed_deletes.specs.declared.opening.Later.{Later}
use Rattle.cdf_packed_puts.proofs.AddedGoes.{node_acts_are}
use Rattle.cdf_packed_puts.specs.Adding.{BlockAdded}
use Rattle.cdf_put_steps.specs.Along.{GoAlong}
use Rattle.cdf_puts.proofs.LeafCounts.{new_room_widest}
use Rattle.cdf_puts.proofs.PutRoom.{leaf_bytes}
use Rattle.cdf_puts.specs.Going.{GoesOn, found_in}
use Rattle.cdf_puts.specs.SoFar.{taken_bytes}

-- ---- lists of steps

go_end : (kind : Kind) (before after : List VariableShape) (stages : List Stage) (from mid end : Stage) → GoAlong kind before after from (stages ++ mid ∷ []) → GoesOn mid.image end.image kind before mid.own end.own after end.acts → GoAlong kind before after from (stages ++ mid ∷ end ∷ [])
go_end kind before after [] from mid end go one = (go.0, (one, tt))
go_end kind before after (next ∷ more) from mid end go one = (go.0, go_end kind before after more next mid end go.1 one)

acts_two : (stages : List Stage) (mid end : Stage) → taken_bytes (flat_map (λ (s : Stage). s.acts) (stages ++ mid ∷ end ∷ [])) ≡ taken_bytes (flat_map (λ (s : Stage). s.acts) stages) + taken_bytes mid.acts + taken_bytes end.acts
acts_two stages mid end =
    ap (λ (xs : List Stage). taken_bytes (flat_map (λ (s : Stage). s.acts) xs)) (sym (append_assoc stages (mid ∷ []) (end ∷ [])))
    ∙ acts_more (stages ++ mid ∷ []) end ∙ ap (λ (n : ℕ). n + taken_bytes end.acts) (acts_more stages mid)

-- a node that is taken is no wider
node_most : (room wide : ℕ) → room ≤ wide → (if room == 0 then 0 else vxr_bytes room) ≤ vxr_bytes wide
node_most zero wide le = omega arith
node_most (suc room) wide le = grind (arith, le)

module _ {b mid now : List ℕ} {kind : Kind} {before : List VariableShape} {own : VariableShape} {after : List VariableShape} {first last : ℕ} {later : Option Later} (good : Good b) (at : StandsAmong b kind before own after) (order : first ≤ last) (short : length b ≤ image_limit) (k : SomeOpened b mid kind before own after first last later) (w : WholeOpened mid now kind before k.kept.own after first last) where
  abbrev size : ℕ
  size = record_bytes b own.vdr

  abbrev wide : ℕ
  wide = widest own.index

  abbrev kept_bytes : ℕ
  kept_bytes = keeping_open_room size first last (keeping_open first last (leaves_of own.index))

  abbrev left_over : Stage
  left_over = left good at order short k w

  none_taken : taken_bytes left_over.acts ≡ 0
  none_taken = ap (λ (xs : List (ℕ × ℕ)). sum (map (λ (take : ℕ × ℕ). take.1) xs)) (taken-gave mid (freed_opening k.kept.own first last))

  max_rec : number now k.kept.own.vdr vdr_max_rec ≡ number mid k.kept.own.vdr vdr_max_rec
  max_rec = w.max_rec_is

  -- ---- nothing is split off

  pub opened_whole : with_both first last (leaves_of own.index) ≡ None → PackedOpened b now kind before own after first last
  opened_whole e = record {
    stages = k.stages;
    kept = k.kept;
    left = left_over;
    end = left_over;
    keep = k.keep;
    cuts = cuts_whole good at order short k w;
    splits = subst (λ (o : Option Leaf). SplitLast (found_in b kind before own) first last b own o left_over left_over) (sym e) refl;
    go = subst (λ (o : Option Leaf). GoAlong kind before after (untouched b own) (k.stages ++ left_over ∷ split_stage o left_over)) (sym e) (go_left good at order short k w);
    takes = subst (λ (o : Option Leaf). taken_bytes (flat_map (λ (s : Stage). s.acts) (k.stages ++ left_over ∷ split_stage o left_over)) ≤ kept_bytes + split_room size last wide o) (sym e) few;
    now_is = refl;
    max_rec_is = subst (λ (vdr : ℕ). number now vdr vdr_max_rec ≡ number mid vdr vdr_max_rec) k.vdr_is max_rec ∙ k.max_rec_is;
    r_max_rec_is = w.r_max_rec_is ∙ k.r_max_rec_is;
  }
    where
      few : taken_bytes (flat_map (λ (s : Stage). s.acts) (k.stages ++ left_over ∷ [])) ≤ kept_bytes + 0
      few = let a = acts_more k.stages left_over in let n = none_taken in let t = k.takes in omega (arith, a, n, t)

  -- ---- some records are

  module _ (later' : Later) (d : SplitsLater b own k.kept.own first last later') {end_image : List ℕ} (x : BlockAdded now end_image kind before (opened_up k.kept.own first last) after (last + 1) later'.last later'.plain.items) where
    abbrev index : Nodes
    index = (opened_up k.kept.own first last).index

    abbrev need : ℕ
    need = block_need end_image (opened_up k.kept.own first last).vdr x.new

    abbrev end_stage : Stage
    end_stage = record { image = end_image; own = x.own'; acts = x.acts; next = k.kept.next }

    acts_are : x.acts ≡ leaf_acts x.new.place need (new_room x.new.first index) x.at
    acts_are =
        ap (λ (y : Nodes × List Act). y.1) x.step
        ∙ ap (λ (y : Nodes × ℕ). Took x.new.place need ∷ (if y.1 == 0 then [] else Took x.at (vxr_bytes y.1) ∷ [])) (grown_is x.new x.at index)
        ∙ ap (λ (more : List Act). Took x.new.place need ∷ more) (sym (node_acts_are (new_room x.new.first index) x.at))

    added_few : taken_bytes x.acts ≤ split_room size last wide (Some d.old)
    added_few =
        let taken = ap taken_bytes acts_are ∙ leaf_bytes x.new.place need (new_room x.new.first index) x.at in
        let room = new_room_widest now (shape now).records 8 x.new.first index (has w.goes_on.good w.goes_on.among).indexed.has_nodes (fits w.goes_on.good w.goes_on.among).1 in
        let node = node_most (new_room x.new.first index) (widest index) room in
        let narrow = wide_so good at order short k w later' d in
        let long = long_so good at order short k w later' d in
        let needs = x.needs in
        omega (arith, taken, node, narrow, long, needs)

    split : SplitsOff (found_in b kind before own) d.old (range (last + 1) d.old.last) (bytes_of_parts b (variable_of b own) own.vdr d.old (split_off first last (range d.old.first d.old.last))) left_over end_stage
    split = record {
      new = x.new;
      at = x.at;
      range_is = λ i. range (x.first_is i) ((x.last_is ∙ d.last_is) i);
      step = x.step;
      written = subst (BlockWritten now end_image true (opened_up k.kept.own first last).vdr x.acts x.new) d.plain_is x.written;
      goes = goes_as refl refl (x.goes (λ (r : Range). false) left_over.acts left_over.next left_over.next) left_over.next;
      next_is = refl;
    }

    few : taken_bytes (flat_map (λ (s : Stage). s.acts) (k.stages ++ left_over ∷ end_stage ∷ [])) ≤ kept_bytes + split_room size last wide (Some d.old)
    few = let a = acts_two k.stages left_over end_stage in let n = none_taken in let t = k.takes in let s = added_few in omega (arith, a, n, t, s)

    max_then : number end_image k.kept.own.vdr vdr_max_rec ≡ number mid k.kept.own.vdr vdr_max_rec
    max_then = x.max_rec_is ∙ max_rec

    pub opened_both : PackedOpened b end_image kind before own after first last
    opened_both = record {
      stages = k.stages;
      kept = k.kept;
      left = left_over;
      end = end_stage;
      keep = k.keep;
      cuts = cuts_whole good at order short k w;
      splits = subst (λ (o : Option Leaf). SplitLast (found_in b kind before own) first last b own o left_over end_stage) (sym d.both_is) split;
      go = subst (λ (o : Option Leaf). GoAlong kind before after (untouched b own) (k.stages ++ left_over ∷ split_stage o end_stage)) (sym d.both_is) (go_end kind before after k.stages (untouched b own) left_over end_stage (go_left good at order short k w) x.goes_on);
      takes = subst (λ (o : Option Leaf). taken_bytes (flat_map (λ (s : Stage). s.acts) (k.stages ++ left_over ∷ split_stage o end_stage)) ≤ kept_bytes + split_room size last wide o) (sym d.both_is) few;
      now_is = refl;
      max_rec_is = subst (λ (vdr : ℕ). number end_image vdr vdr_max_rec ≡ number mid vdr vdr_max_rec) k.vdr_is max_then ∙ k.max_rec_is;
      r_max_rec_is = x.r_max_rec_is ∙ w.r_max_rec_is ∙ k.r_max_rec_is;
    }

-- ---- the calls

module _ {b : List ℕ} (good : Good b) {kind : Kind} {before : List VariableShape} {own : VariableShape} {after : List VariableShape} {vdr : ℕ} (among : StandsAmong b kind before own after) (is : own.vdr ≡ vdr) {first last size limit : ℕ} (order : first ≤ last) (size_is : size ≡ record_bytes b vdr) (room : length b + opening_room size first last (index_at b (number b vdr vdr_vxr_head)) ≤ limit) (most : limit ≤ image_limit) where
  short_b : length b ≤ image_limit
  short_b = omega (arith, room, most)

  own_room : length b + opening_room (record_bytes b own.vdr) first last own.index ≤ limit
  own_room =
      let size_so : size ≡ record_bytes b own.vdr = size_is ∙ ap (record_bytes b) (sym is) in
      subst (λ (n : ℕ). length b + opening_room n first last own.index ≤ limit) size_so (subst (λ (y : Nodes). length b + opening_room size first last y ≤ limit) (index_is b good among is).1 room)

  module _ {mid now : List ℕ} (o : Option Later) (k : SomeOpened b mid kind before own after first last o) (w : WholeOpened mid now kind before k.kept.own after first last) where
    pub all_whole : o ≡ None → PackedOpened b now kind before own after first last
    all_whole e = opened_whole good among order short_b k w (subst (LaterIs b own k.kept.own first last) e k.later_is)

    module _ (later : Later) (e : o ≡ Some later) where
      splits : SplitsLater b own k.kept.own first last later
      splits = subst (LaterIs b own k.kept.own first last) e k.later_is

      pub later_there : is_compressed b vdr ≡ true → IsLater now kind before (opened_up k.kept.own first last) after vdr last later limit
      later_there rle = is_later good among order short_b k w later splits (ap (is_compressed b) is ∙ rle) own_room is

      pub has_there : is_compressed b vdr ≡ true → HasLater now vdr last later limit
      has_there rle = has_later good among order short_b k w later splits (ap (is_compressed b) is ∙ rle) own_room is

      pub all_opened : {end_image : List ℕ} → BlockAdded now end_image kind before (opened_up k.kept.own first last) after (last + 1) later.last later.plain.items → PackedOpened b end_image kind before own after first last
      all_opened x = opened_both good among order short_b k w later splits x
