-- Nodes of top chains that are known of the variables of an image, and that they are known yet where records were put.
use Rattle.cdf_puts.proofs.Common.{IsRightOf, IsWithin, LeavesEntries, cases_eq, entries_in, known_of, widest, Act, Each, Each-append, Each-split, GoesOn, Good, HasIndex, In, InTopChain, IsKnownOf, Kind, KnowsStarts, Leaf, List, Nodes, None, Option, R, Some, StandsAmong, TopStays, VariableShape, Z, [], ap, arith, index_at, inl, inr, length, long, number, other_kind, refl, shape, shapes_of, sound, subst, sym, tile, tile_lies, variables, vdr_vxr_head, vdrs, with_leaf, ℕ, ◌++◌, ◌+◌, ◌∷◌, ◌≡◌, ◌≢◌, ◌≤◌, Grows, by_leaf, Shape, top_chain, of_kind, searchable}
use Rattle.cdf_index.proofs.OneVariable.{OneOf, one_of}
use Rattle.cdf_puts.specs.TidyIndex.{IsTidy}
use Rattle.cdf_puts.specs.declared.known_index.IndexBound.{IndexBound}
use Rattle.cdf_puts.specs.declared.known_index.KnownIndex.{KnownIndex}
use Rattle.cdf_puts.specs.declared.starts.Starts.{Starts}
use Rattle.std.specs.BTreeMap.{get}
use Rattle.std.specs.Ordering.{nat_cmp}
use Rattle.std.specs.Prelude.{IfSome}

-- each node of the top chain of an index is one of it once the index gets a leaf
pub top_kept : (new : Leaf) (at : ℕ) (index : Nodes) → TopStays index (with_leaf new at index)
top_kept new at index m i = let steps : Grows new at (λ n a a'. In m (top_chain a) → In m (top_chain a')) (λ n es es'. Unit {0}) = grind arith in by_leaf steps index i

pub tops_in : (before after : Nodes) → TopStays before after → (known : Option ℕ) → InTopChain before known → InTopChain after known
tops_in before after stay None known = tt
tops_in before after stay (Some m) known = stay m known

-- ---- the index of a variable

module _ (b : List ℕ) (good : Good b) where
  index_of : {kind : Kind} {before : List VariableShape} {own : VariableShape} {after : List VariableShape} {vdr : ℕ} → StandsAmong b kind before own after → own.vdr ≡ vdr → index_at b (number b vdr vdr_vxr_head) ≡ own.index
  index_of {own = own} at e = subst (λ (v : ℕ). index_at b (number b v vdr_vxr_head) ≡ own.index) e (searchable good at).1

  module _ (vdr : ℕ) (i : In vdr (vdrs (variables (shape b)))) where
    abbrev o : OneOf b vdr
    o = one_of b vdr i

    pub has_index : HasIndex b (number b vdr vdr_vxr_head)
    has_index = subst (λ (v : ℕ). HasIndex b (number b v vdr_vxr_head)) o.vdr_is (searchable good o.among).0

    pub vdr_lies : vdr + 340 ≤ length b
    vdr_lies = subst (λ (v : ℕ). v + 340 ≤ length b) o.vdr_is (omega (arith, long good o.among, tile_lies b 8 (length b) (shape b).records o.own.vdr (sound good o.among).has_shape.tiled (tile good o.among)))

-- ---- each variable

each_at : (P : VariableShape → Type 0) (vs : List VariableShape) → ((front : List VariableShape) (own : VariableShape) (rest : List VariableShape) → vs ≡ front ++ own ∷ rest → P own) → Each P vs
each_at P [] f = tt
each_at P (v ∷ vs) f = (f [] v vs refl, each_at P vs (λ front own rest e. f (v ∷ front) own rest (ap (λ (r : List VariableShape). v ∷ r) e)))

all_kinds : (P : VariableShape → Type 0) (kind : Kind) (s : Shape) → Each P (shapes_of s kind) → Each P (shapes_of s (other_kind kind)) → Each P (variables s)
all_kinds P R s own other = Each-append P s.r_variables s.z_variables own other
all_kinds P Z s own other = Each-append P s.r_variables s.z_variables other own

module _ (b : List ℕ) (P : VariableShape → Type 0) where
  each_among : ((kind : Kind) (before : List VariableShape) (own : VariableShape) (after : List VariableShape) → StandsAmong b kind before own after → P own) → Each P (variables (shape b))
  each_among f = all_kinds P R (shape b) (each_at P (shape b).r_variables (λ before own after e. f R before own after (record { was = e }))) (each_at P (shape b).z_variables (λ before own after e. f Z before own after (record { was = e })))

  one_among : {kind : Kind} {before : List VariableShape} {own : VariableShape} {after : List VariableShape} → StandsAmong b kind before own after → Each P (variables (shape b)) → P own
  one_among {kind} {before} {own} {after} at all = (Each-split P before (own ∷ after) (subst (Each P) at.was (of_kind P kind (shape b) all))).1.0

pub none_known : (b : List ℕ) (starts : Starts) → ((v : ℕ) → known_of starts v ≡ None) → KnowsStarts b starts
none_known b starts none = record { each = each_among b (IsKnownOf starts) (λ kind before own after at. rw (none own.vdr) tt) }

-- ---- a bound

-- an index that got so many entries at most is within a bound that left room for them
within_left : (index index' : Nodes) (more : ℕ) (known : Option IndexBound) → IfSome known (IsWithin index) → IfSome known (λ bound. entries_in index + more ≤ bound.entries) → entries_in index' ≤ entries_in index + more → widest index' ≤ widest index → IfSome known (IsWithin index')
within_left index index' more None within left few narrow = tt
within_left index index' more (Some bound) within left few narrow = record { few = omega (arith, few, left); narrow = omega (arith, narrow, within.narrow) }

-- what is known of an index is right yet once it got so many entries
pub right_yet : (index index' : Nodes) (more : ℕ) (known : Option KnownIndex) → IfSome known (IsRightOf index) → IfSome known (λ k. LeavesEntries k index more) → TopStays index index' → entries_in index' ≤ entries_in index + more → widest index' ≤ widest index → (IsTidy index → IsTidy index') → IfSome known (IsRightOf index')
right_yet index index' more None is left tops few narrow tidy = tt
right_yet index index' more (Some known) is left tops few narrow tidy = record { node = tops_in index index' tops known.node is.node; passed = λ rec. tops_in index index' tops (get nat_cmp known.passed rec) (is.passed rec); bound = within_left index index' more known.bound is.bound left few narrow; tidy = λ t. tidy (is.tidy t) }

-- what is kept, and nothing else
pub kept_is : (P : KnownIndex → Type 0) (known : KnownIndex) (o : Option KnownIndex) → IfSome o (λ kept. kept ≡ known) → P known → IfSome o P
kept_is P known None is p = tt
kept_is P known (Some kept) is p = subst P (sym is) p

-- ---- each variable of an image

module _ {b : List ℕ} {starts : Starts} (knows : KnowsStarts b starts) where
  module _ (vdr : ℕ) (good : Good b) where
    abbrev index : Nodes
    index = index_at b (number b vdr vdr_vxr_head)

    pub known_there : In vdr (vdrs (variables (shape b))) → IfSome (known_of starts vdr) (IsRightOf index)
    known_there i =
        let o = one_of b vdr i in
        rw (index_of b good o.among o.vdr_is) (subst (λ (v : ℕ). IfSome (known_of starts v) (IsRightOf o.own.index)) o.vdr_is (one_among b (IsKnownOf starts) o.among knows.each))

    -- of one variable something else is known
    pub known_kept : (after : Starts) → ((v : ℕ) → v ≢ vdr → known_of after v ≡ known_of starts v) → IfSome (known_of after vdr) (IsRightOf index) → KnowsStarts b after
    known_kept after others own = record {
      each = each_among b (IsKnownOf after) (λ kind before v rest at. elim (cases_eq v.vdr vdr) [
        | inl e ↦ subst (λ (nodes : Nodes). IfSome (known_of after v.vdr) (IsRightOf nodes)) (index_of b good at refl) (subst (λ (n : ℕ). IfSome (known_of after n) (IsRightOf (index_at b (number b n vdr_vxr_head)))) (sym e) own)
        | inr ne ↦ subst (λ (o : Option KnownIndex). IfSome o (IsRightOf v.index)) (sym (others v.vdr ne)) (one_among b (IsKnownOf starts) at knows.each)
      ]);
    }

  -- records of one variable are put
  pub starts_go_on : {now : List ℕ} (kind : Kind) {before : List VariableShape} {own own' : VariableShape} {after : List VariableShape} {acts : List Act} → StandsAmong b kind before own after → GoesOn b now kind before own own' after acts
      → (IfSome (known_of starts own.vdr) (IsRightOf own.index) → IfSome (known_of starts own.vdr) (IsRightOf own'.index)) → KnowsStarts now starts
  starts_go_on {now} kind {before} {own} {own'} {after} at goes yet =
      let P = IsKnownOf starts in
      let s = Each-split P before (own ∷ after) (subst (Each P) at.was (of_kind P kind (shape b) knows.each)) in
      let later = subst (λ (v : ℕ). IfSome (known_of starts v) (IsRightOf own'.index)) (sym goes.vdr_is) (yet s.1.0) in
      record { each = all_kinds P kind (shape now) (subst (Each P) (sym goes.among.was) (Each-append P before (own' ∷ after) s.0 (later, s.1.1))) (subst (Each P) (sym goes.others_are) (of_kind P (other_kind kind) (shape b) knows.each)) }
