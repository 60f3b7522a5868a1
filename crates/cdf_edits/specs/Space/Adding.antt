-- A record that is taken, written, and linked into a chain: behind the last one, and counted there, or in the place of another one (own).
use Rattle.std.specs.Prelude.{◌≡◌, ℕ, ◌+◌, List, [], ◌∷◌, ◌++◌, length}
use Rattle.cdf_format.specs.Chains.{IsChain}
use Rattle.cdf_format.specs.Fields.{number}
use Rattle.cdf_format.specs.Shape.{shape}
use Rattle.cdf_edits.specs.Edits.Edit.{Edit}
use Rattle.cdf_edits.specs.Edits.Marks.{Mark, field_marks, append_marks}
use Rattle.cdf_edits.specs.Space.Chains.{holder_of, head_of, count_of, counted_in, holder_type, type_in, members_of, with_in_place}
use Rattle.cdf_edits.specs.Space.Placing.{Placed}
use Rattle.cdf_edits.specs.declared.chain.Chain.{Chain}

-- what is written once it stands
abbrev pub adding_marks : List ℕ → Chain → ℕ → List Mark
adding_marks b c place = append_marks (holder_type c) (holder_of b c) (head_of c) (type_in c) place (members_of b c) ++ field_marks (holder_type c) (holder_of b c) (count_of c)

-- From an image to one in which it stands, and to one in which the chain has these members and this count.
pub record Joined (b now : List ℕ) (c : Chain) (body : List ℕ) (place : ℕ) (members : List ℕ) (count : ℕ) : Type 0 where
  pub filled : List ℕ
  pub placed : Placed b filled body place
  pub linked : Edit filled now (shape filled).records (shape filled).records (adding_marks b c place) []
  pub as_long : length now ≡ length filled
  pub chain : IsChain now (shape filled).records (type_in c) (number now (holder_of b c) (head_of c)) members
  pub counted : number now (holder_of b c) (count_of c) ≡ count

-- it is the last one of the chain, which counts one more
abbrev pub Added : List ℕ → List ℕ → Chain → List ℕ → ℕ → Type 0
Added b now c body place = Joined b now c body place (members_of b c ++ place ∷ []) (counted_in b c + 1)

-- it took the place of a member
abbrev pub Exchanged : List ℕ → List ℕ → Chain → List ℕ → ℕ → ℕ → Type 0
Exchanged b now c body old place = Joined b now c body place (with_in_place old place (members_of b c)) (counted_in b c)
