-- The search for a record in an index, at the node where it starts (own).
use Rattle.std.specs.Prelude.{◌≡◌, ℕ, List}
use Rattle.cdf_format.specs.Fields.{number}
use Rattle.cdf_format.specs.Records.{vdr_vxr_head}
use Rattle.cdf_index.specs.Finding.{HasIndex}
use Rattle.cdf_index.specs.Starting.{IsStart}
use Rattle.cdf_puts.specs.declared.searching.Search.{Search}

-- the link leads to an index, and a search for the record may start at the node
pub record IsSearch (b : List ℕ) (search : Search) : Type 0 where
  pub index : HasIndex b search.head
  pub start : IsStart b search.head search.rec search.start

-- the index is that of the variable whose VDR stands there
pub record SearchesIn (b : List ℕ) (vdr : ℕ) (search : Search) : Type 0 where
  pub is : IsSearch b search
  pub head_is : search.head ≡ number b vdr vdr_vxr_head
