-- What a cut frees keeps its bytes: in blocks, and in nodes behind their entries.
use Rattle.cdf_cuts.proofs.Common.{Bool, Each, List, [], inl, inr, ℕ, ◌∷◌}
use Rattle.std.specs.List.{filter}
use Rattle.cdf_edits.proofs.Common.{Act, FreedStays, GivenStay, either, no_fields, room_at, shape, unused_records}
use Rattle.cdf_edits.specs.Index.Cut.{NodesFreedStay}
use Rattle.cdf_edits.specs.Space.Acts.{Gave, Took}
use Rattle.cdf_format.specs.Records.{vxr_entries}

pub given_filter : (b now : List ℕ) (p : Act → Bool) (acts gives : List Act) → GivenStay b now no_fields acts gives → GivenStay b now no_fields acts (filter p gives)
given_filter b now p acts [] g = tt
given_filter b now p acts (Took place need ∷ gives) g = elim (either (p (Took place need))) [ inl e ↦ rw e (given_filter b now p acts gives g) | inr e ↦ rw e (given_filter b now p acts gives g) ]
given_filter b now p acts (Gave place size ∷ gives) g = elim (either (p (Gave place size))) [ inl e ↦ rw e (g.0, given_filter b now p acts gives g.1) | inr e ↦ rw e (given_filter b now p acts gives g.1) ]

pub given_nodes : (b now : List ℕ) (acts gives : List Act) → GivenStay b now no_fields acts gives → NodesFreedStay b now acts gives
given_nodes b now acts [] g = tt
given_nodes b now acts (Took place need ∷ gives) g = given_nodes b now acts gives g
given_nodes b now acts (Gave place size ∷ gives) g = ((λ t. each_less (unused_records now (shape now)) g.0), given_nodes b now acts gives g.1)
  where
    each_less : (us : List ℕ) → Each (FreedStays b now acts place size []) us → Each (FreedStays b now acts place size (vxr_entries (room_at b place) ∷ [])) us
    each_less [] e = tt
    each_less (u ∷ us) e = ((λ i lt low high out free. e.0 i lt low high tt free), each_less us e.1)
