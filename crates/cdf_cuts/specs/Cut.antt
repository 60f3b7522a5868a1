-- An index that was cut: its nodes written, VXRhead leading to them, and what is left over freed (own).
use Rattle.std.specs.Prelude.{ℕ, List, Bool, Some, None, true, false}
use Rattle.std.specs.declared.option.Option.{Option}
use Rattle.cdf_edits.specs.Space.Freeing.{AllGiven}
use Rattle.cdf_format.specs.Fields.{with_field}
use Rattle.cdf_format.specs.Records.{vdr_vxr_head, vdr_vxr_tail}
use Rattle.cdf_format.specs.Shape.{VariableShape}
use Rattle.cdf_index.specs.declared.entries.Entry.{Entry}
use Rattle.cdf_model.specs.declared.kinds.Kind.{Kind}
use Rattle.cdf_cuts.specs.Linking.{IsLinked}
use Rattle.cdf_cuts.specs.Planning.{plan_of, freed_of}
use Rattle.cdf_cuts.specs.declared.planning.Left.{Left}
use Rattle.cdf_cuts.specs.declared.planning.Span.{Span}

-- the link that leads to what was found
abbrev pub link_found : Option Entry → ℕ
link_found None = 0
link_found (Some e) = e.place

-- VXRtail is written where the top chain lost a node
abbrev pub tail_led : List ℕ → ℕ → ℕ → Bool → List ℕ
tail_led b vdr last true = b
tail_led b vdr last false = with_field b vdr vdr_vxr_tail last

abbrev pub heads_led : List ℕ → ℕ → Left → List ℕ
heads_led b vdr left = tail_led (with_field b vdr vdr_vxr_head (link_found left.found)) vdr left.prev left.whole

pub record IsCut (b now : List ℕ) (kind : Kind) (own : VariableShape) (span : Span) : Type 0 where
  pub linked : List ℕ
  pub is_linked : IsLinked b linked kind own span
  pub given : AllGiven linked now (freed_of (plan_of span 0 own.index))
