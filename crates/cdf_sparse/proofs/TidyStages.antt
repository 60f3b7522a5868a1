-- An index stays tidy from one image to the next one: through the steps of a put, and through a cut; and after a cut it is tidy, whatever it was before.
-- Where its blocks and new nodes stand says nothing of that.
use Rattle.cdf_cuts.proofs.Common.{Bool, Each, Entries, IsNode, Leaf, List, Nodes, [], ap, block, false, leaves_of, lower, map, no_entry, no_node, node, subst, sym, true, ℕ, ◌<◌, ◌∷◌, ◌≡◌}
use Rattle.cdf_cuts.specs.Past.{before_first, cut_off, past_acts}
use Rattle.cdf_edits.specs.Commands.PutSteps.{Begins, CutsPast, Put, PutsLeaf, PutsLeaves, PutsUpTo, Stage, leaf_at}
use Rattle.cdf_edits.specs.Commands.Puts.{past_max_rec}
use Rattle.cdf_edits.specs.Index.Blocks.{cuts_before_put}
use Rattle.cdf_edits.specs.Index.Cut.{CutsIndex, Part}
unfoldable use Rattle.cdf_edits.specs.Index.Grown.{entries_outline, outline}
use Rattle.cdf_edits.specs.Space.Acts.{Act, gave, taken}
use Rattle.cdf_format.specs.Shape.{VariableShape}
use Rattle.cdf_index.specs.Order.{InOrder}
use Rattle.cdf_index.specs.Replacing.{with_index}
use Rattle.cdf_model.specs.DataSet.{Variable}
use Rattle.cdf_model.specs.Limits.{record_number_limit}
use Rattle.cdf_model.specs.Names.{Found}
use Rattle.cdf_sparse.proofs.TidyCut.{cut_is_tidy, none_freed, nothing_cut}
use Rattle.cdf_sparse.proofs.TidyGrown.{opened_is_tidy, step_is_tidy}
use Rattle.cdf_edits.specs.Commands.Deleting.{CutsOpen, DeletesUnderRule}
use Rattle.cdf_puts.specs.TidyIndex.{HasEntry}
unfoldable use Rattle.cdf_puts.specs.TidyIndex.{EntriesTidy, IsTidy}

-- ---- an index but for where its blocks and its new nodes stand

outline_node : (news : List ℕ) (ns : Nodes) → IsNode ns → IsNode (outline news ns)
unfolding outline
outline_node news no_node h = h
outline_node news (node place room es more) h = tt

node_by_outline : (news : List ℕ) (ns : Nodes) → IsNode (outline news ns) → IsNode ns
unfolding outline
node_by_outline news no_node h = h
node_by_outline news (node place room es more) h = tt

outline_has : (news : List ℕ) (es : Entries) → HasEntry es → HasEntry (entries_outline news es)
unfolding entries_outline
outline_has news no_entry h = h
outline_has news (block f l place packed es) h = tt
outline_has news (lower f l ns es) h = tt

has_by_outline : (news : List ℕ) (es : Entries) → HasEntry (entries_outline news es) → HasEntry es
unfolding entries_outline
has_by_outline news no_entry h = h
has_by_outline news (block f l place packed es) h = tt
has_by_outline news (lower f l ns es) h = tt

mutual
  unfolding IsTidy EntriesTidy outline entries_outline

  pub outline_is_tidy : (news : List ℕ) (index : Nodes) → IsTidy index → IsTidy (outline news index)
  outline_is_tidy news no_node t = tt
  outline_is_tidy news (node place room es more) t = (outline_has news es t.0, outline_entries_tidy news es t.1, outline_is_tidy news more t.2)

  outline_entries_tidy : (news : List ℕ) (es : Entries) → EntriesTidy es → EntriesTidy (entries_outline news es)
  outline_entries_tidy news no_entry t = tt
  outline_entries_tidy news (block f l place packed es) t = outline_entries_tidy news es t
  outline_entries_tidy news (lower f l ns es) t = (outline_node news ns t.0, outline_is_tidy news ns t.1, outline_entries_tidy news es t.2)

mutual
  unfolding IsTidy EntriesTidy outline entries_outline

  pub tidy_by_outline : (news : List ℕ) (index : Nodes) → IsTidy (outline news index) → IsTidy index
  tidy_by_outline news no_node t = tt
  tidy_by_outline news (node place room es more) t = (has_by_outline news es t.0, entries_by_outline news es t.1, tidy_by_outline news more t.2)

  entries_by_outline : (news : List ℕ) (es : Entries) → EntriesTidy (entries_outline news es) → EntriesTidy es
  entries_by_outline news no_entry t = tt
  entries_by_outline news (block f l place packed es) t = entries_by_outline news es t
  entries_by_outline news (lower f l ns es) t = (node_by_outline news ns t.0, tidy_by_outline news ns t.1, entries_by_outline news es t.2)

-- ---- cuts

-- the index that a cut leaves is as tidy as the index that was wanted
pub cuts_to_tidy : {v : Variable} {kept : Part} {before wanted after : Nodes} {acts : List Act} → CutsIndex v kept before wanted after acts → IsTidy wanted → IsTidy after
cuts_to_tidy {wanted = wanted} {after = after} {acts = acts} c t =
    let news : List ℕ = map (λ (take : ℕ × ℕ). take.0) (taken acts) in
    tidy_by_outline news after (subst IsTidy (sym c.index_is) (outline_is_tidy news wanted t))

-- all records from a first one on were cut
pub cut_off_tidy : (own : VariableShape) (first : ℕ) → IsTidy (cut_off own first).index
cut_off_tidy own first = cut_is_tidy false (before_first first) own.index

-- where the index was tidy and all its leaves end before that record, nothing was cut: the variable is the same, and no record is freed
module _ (own : VariableShape) (first : ℕ) (tidy : IsTidy own.index) (order : InOrder 0 record_number_limit own.index) (ends : Each (λ (l : Leaf). l.last < first) (leaves_of own.index)) where
  pub cut_off_same : cut_off own first ≡ own
  cut_off_same = λ i. with_index own (nothing_cut first own.index tidy order ends i)

  pub past_acts_none : (b : List ℕ) → past_acts b own first ≡ []
  past_acts_none b = λ i. gave b (none_freed first own.index tidy order ends i)

-- records from a first to a last were cut, and later ones keep their numbers
pub cuts_open_tidy : {found : Found} {first last : ℕ} {from to : Stage} → CutsOpen found first last from to → IsTidy to.own.index
cuts_open_tidy {first = first} {last = last} {from = from} x = cuts_to_tidy x.index (opened_is_tidy first last from.own.index)

-- `del-recs` under a sparse rule
pub deleted_tidy : {b now : List ℕ} {found : Found} {first last : ℕ} {before after : VariableShape} {acts : List Act} → DeletesUnderRule b now found first last before after acts → IsTidy after.index
deleted_tidy x = subst (λ (own : VariableShape). IsTidy own.index) (sym x.stands) (cuts_open_tidy x.cuts_past)

-- a put under a rule cut what is past MaxRec
pub cuts_past_tidy : {found : Found} {from to : Stage} → CutsPast found from to → IsTidy to.own.index
cuts_past_tidy {found = found} {from = from} x = cuts_to_tidy x.cuts.0 (cut_is_tidy false (past_max_rec found.variable) from.own.index)

-- ---- puts

pub puts_leaf_tidy : {p : Put} {from to : Stage} → PutsLeaf p from to → IsTidy from.own.index → IsTidy to.own.index
puts_leaf_tidy {p = p} {from = from} {to = to} x t =
    subst IsTidy (sym (ap (λ (g : Nodes × List Act). g.0) x.step)) (step_is_tidy from.image to.image p.found.variable.rle to.own.vdr from.own.index (leaf_at from.next from.own.index) x.new x.at t)

pub puts_leaves_tidy : (p : Put) (from : Stage) (stages : List Stage) (to : Stage) → PutsLeaves p from stages to → IsTidy from.own.index → IsTidy to.own.index
puts_leaves_tidy p from [] to x t = subst (λ (s : Stage). IsTidy s.own.index) x t
puts_leaves_tidy p from (next ∷ more) to x t = puts_leaves_tidy p next more to x.1 (puts_leaf_tidy x.0 t)

begins_tidy : (found : Found) (from to : Stage) (cuts : Bool) → Begins found from to cuts → IsTidy from.own.index → IsTidy to.own.index
begins_tidy found from to true x t = cuts_past_tidy x
begins_tidy found from to false x t = subst (λ (s : Stage). IsTidy s.own.index) x t

-- a put keeps an index tidy
pub puts_tidy : {b : List ℕ} {p : Put} {before : VariableShape} {to : Stage} {acts : List Act} → PutsUpTo b p before to acts → IsTidy before.index → IsTidy to.own.index
puts_tidy {p = p} {to = to} x t = puts_leaves_tidy p x.start x.stages to x.puts (begins_tidy p.found _ x.start (cuts_before_put p.found.variable p.rec) x.begins t)

-- one that cuts first leaves a tidy index, whatever it was before
pub cut_puts_tidy : {b : List ℕ} {p : Put} {before : VariableShape} {to : Stage} {acts : List Act} → PutsUpTo b p before to acts → cuts_before_put p.found.variable p.rec ≡ true → IsTidy to.own.index
cut_puts_tidy {p = p} {to = to} x cuts = puts_leaves_tidy p x.start x.stages to x.puts (cuts_past_tidy (subst (Begins p.found _ x.start) cuts x.begins))
