-- A leaf more: where it stands among the others, and what is asked of an index to which it is added.
use Rattle.std.specs.Prelude.{◌≡◌, ◌+◌, ◌==◌, ℕ, List, [], ◌∷◌, false, nat_lt, if◌then◌else◌}
use Rattle.cdf_edits.specs.Index.Grown.{past}
use Rattle.cdf_format.specs.Chains.{is_linkable}
use Rattle.cdf_format.specs.Fields.{type_at}
use Rattle.cdf_format.specs.Index.{Entries, Leaf, entry_count, used_count}
use Rattle.cdf_format.specs.IndexOf.{SayEntries}
use Rattle.cdf_format.specs.RecordTypes.{vxr_type, cvvr_type}

-- a leaf goes before the first one that begins past it
abbrev pub with_new : Leaf → List Leaf → List Leaf
with_new new [] = new ∷ []
with_new new (l ∷ more) = if nat_lt new.first l.first then new ∷ l ∷ more else l ∷ with_new new more

-- so many of the entries of a node begin at a record or before it, and the others past it
abbrev pub Begins : List ℕ → ℕ → ℕ → ℕ → Type 0
Begins b at first p = (entries : Entries) → used_count b at ≡ entry_count entries → SayEntries b at 0 entries → p + entry_count (past first entries) ≡ entry_count entries

-- a leaf has a block, which an entry may name
pub record MayName (b records : List ℕ) (l : Leaf) : Type 0 where
  pub no_node : is_linkable b records vxr_type l.place ≡ false
  pub packed_is : (type_at b l.place == cvvr_type) ≡ l.packed
