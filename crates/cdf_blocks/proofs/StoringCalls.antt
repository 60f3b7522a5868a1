-- What the calls ask for that store the bytes of a block, and what they come to.
use Rattle.cdf_blocks.proofs.Common.{Bool, Leaf, List, SaysEntry, ap, arith, false, length, refl, room_at, subst, sym, true, ℕ, ◌+◌, ◌<◌, ◌∙◌, ◌≡◌, ◌≤◌}
use Rattle.cdf_edits.proofs.Common.{Kind, VariableShape, image_limit, leb-true, nat_le, nat_tests, shape, size_at, tile_lies, ◌&&◌}
use Rattle.cdf_edits.proofs.Edits.Common.{Kept, sound}
use Rattle.cdf_edits.specs.Index.Written.{is_worth_packing, keeps_record, same_packing}
use Rattle.cdf_index.proofs.Common.{NodeInside}
use Rattle.cdf_index.proofs.OneNode.{SameNode, same_node}
use Rattle.cdf_leaves.proofs.Own as of_own
use Rattle.cdf_leaves.proofs.Spares.{node_inside}
use Rattle.cdf_model.specs.RunLengths.{IsLongest, Packs}
use Rattle.cdf_packed.specs.Choice.{IsChosen}
use Rattle.cdf_blocks.specs.Blocks.{HasLeaf, HasPart, HasPlain, IsLeafOf, IsPartOf, IsPlainOf, LiesIn, Overwritten, StoredAs, block_body, stored_end}
use Rattle.cdf_blocks.specs.declared.placing.Part.{Part}
use Rattle.cdf_blocks.specs.declared.placing.Site.{Site}
use Rattle.cdf_blocks.specs.Replaced.{Moved, Rewritten}
use Rattle.cdf_blocks.specs.Shortened.{BlockShortened}
use Rattle.cdf_blocks.proofs.BlockBytes.{stored_room}
use Rattle.cdf_blocks.proofs.BlockOf.{block_in, range_of}
use Rattle.cdf_blocks.proofs.BytesWritten.{node_mid}
use Rattle.cdf_blocks.proofs.InPlaceGoes.{shortened_here}
use Rattle.cdf_blocks.proofs.MovedGoes.{shortened_anew}
use Rattle.cdf_blocks.proofs.NewBlock.{body_long, bytes_short}

-- ---- how the plain bytes are stored

pub stored_plain : (plain : List ℕ) → IsChosen plain false → StoredAs plain false plain
stored_plain plain chosen = record { chosen = chosen; stores = refl }

pub stored_packed : (plain bytes : List ℕ) → IsChosen plain true → Packs bytes plain → IsLongest bytes → is_worth_packing plain bytes ≡ true → StoredAs plain true bytes
stored_packed plain bytes chosen packs longest worth = record { chosen = chosen; stores = (packs, longest, worth) }

module _ {b : List ℕ} {site : Site} {l : Leaf} {records : Part} {plain : List ℕ} {limit : ℕ} (packed : Bool) (bytes : List ℕ) (a : StoredAs plain packed bytes) where
  pub leaf_of : {kind : Kind} {before : List VariableShape} {own : VariableShape} {after : List VariableShape} → IsPartOf b kind before own after site l records plain limit → IsLeafOf b kind before own after site l records plain packed bytes limit
  leaf_of p = record { good = p.good; among = p.among; rle = p.rle; one = p.one; site_is = p.site_is; lies = p.lies; as_long = p.as_long; stored = a; room = omega (arith, p.room, stored_room plain bytes packed a) }

  pub has_leaf : HasPart b site l records plain limit → HasLeaf b site l records packed bytes limit
  has_leaf p = record { kind = p.kind; before = p.before; own = p.own; after = p.after; plain = plain; leaf = leaf_of p.is_part }

-- all records of a leaf are some of them
module _ {b : List ℕ} {site : Site} {l : Leaf} {plain : List ℕ} {limit : ℕ} where
  pub whole_part : {kind : Kind} {before : List VariableShape} {own : VariableShape} {after : List VariableShape} → IsPlainOf b kind before own after site l plain limit → IsPartOf b kind before own after site l (record { first = l.first; last = l.last }) plain limit
  whole_part p = record { good = p.good; among = p.among; rle = p.rle; one = p.one; site_is = p.site_is; lies = record { begins = omega arith; ordered = (range_of p.good p.among l p.one).ordered; ends = omega arith }; as_long = p.as_long; room = p.room }

  pub has_part : HasPlain b site l plain limit → HasPart b site l (record { first = l.first; last = l.last }) plain limit
  has_part p = record { kind = p.kind; before = p.before; own = p.own; after = p.after; is_part = whole_part p.is_plain }

-- ---- whether it stays in its record

keeps_by : (p q : Bool) (e n : ℕ) → (same_packing p q && nat_le e n) ≡ true → (p ≡ q) × (e ≤ n)
keeps_by true true e n h = (refl, leb-true e n h)
keeps_by false false e n h = (refl, leb-true e n h)
keeps_by true false e n h = absurd cc
keeps_by false true e n h = absurd cc

goes_by : (p q : Bool) (e n : ℕ) → (same_packing p q && nat_le e n) ≡ false → p ≡ q → e ≤ n → ⊥
goes_by true true e n h q le = grind (arith, nat_tests, h, le)
goes_by false false e n h q le = grind (arith, nat_tests, h, le)
goes_by true false e n h q le = absurd cc
goes_by false true e n h q le = absurd cc

pub kept_is : {keeps p q : Bool} {e n : ℕ} → keeps ≡ keeps_record true p q e n → keeps ≡ true → (p ≡ q) × (e ≤ n)
kept_is {p = p} {q = q} {e = e} {n = n} is t = keeps_by p q e n (sym is ∙ t)

pub goes_is : {keeps p q : Bool} {e n : ℕ} → keeps ≡ keeps_record true p q e n → keeps ≡ false → p ≡ q → e ≤ n → ⊥
goes_is {p = p} {q = q} {e = e} {n = n} is t = goes_by p q e n (sym is ∙ t)

-- ---- the record of the block

module _ {b : List ℕ} {site : Site} {l : Leaf} {records : Part} {packed : Bool} {bytes : List ℕ} {limit : ℕ} (k : HasLeaf b site l records packed bytes limit) where
  pub record_lies : (12 ≤ size_at b l.place) × (l.place + size_at b l.place ≤ length b)
  record_lies = let t = tile_lies b 8 (length b) (shape b).records l.place (sound k.leaf.good k.leaf.among).has_shape.tiled (block_in k.leaf.good k.leaf.among l k.leaf.one) in (t.long, t.high)

  pub short_before : limit ≤ image_limit → length b ≤ image_limit
  short_before le = omega (arith, k.leaf.room, le)

  pub few_bytes : limit ≤ image_limit → length bytes ≤ image_limit
  few_bytes le = bytes_short packed bytes 1073741824 (omega (arith, body_long packed bytes, k.leaf.room, le))

  pub same_room : stored_end packed (length bytes) ≤ size_at b l.place → l.place + stored_end packed (length bytes) ≤ length b
  same_room le = omega (arith, record_lies.1, le)

-- its leaf, in the image of which so much was read
pub leaf_again : {b b' : List ℕ} {site : Site} {l : Leaf} {records : Part} {packed : Bool} {bytes : List ℕ} {limit limit' : ℕ} → b' ≡ b → limit' ≡ limit → l.packed ≡ packed → HasLeaf b site l records packed bytes limit → HasLeaf b' site l records l.packed bytes limit'
leaf_again {site = site} {l = l} {records = records} {bytes = bytes} image same e h = subst (λ (y : List ℕ × ℕ × Bool). HasLeaf y.0 site l records y.2 bytes y.1) (λ i. (sym image i, sym same i, sym e i)) h

-- ---- the node, once the bytes were written

module _ {b mid : List ℕ} {site : Site} {l : Leaf} {records : Part} {bytes : List ℕ} {limit : ℕ} (k : HasLeaf b site l records l.packed bytes limit) (room : stored_end l.packed (length bytes) ≤ size_at b l.place) (w : Overwritten b mid l.place l.packed bytes) where
  kept_node : Kept b mid site.node
  kept_node = node_mid k.leaf.good k.leaf.among l k.leaf.one bytes w room site.node k.leaf.site_is.there

  same_site : SameNode b mid site.node
  same_site = same_node b mid site.node kept_node (of_own.node_fits k.leaf.good k.leaf.among site.node k.leaf.site_is.there)

  pub node_there : NodeInside mid site.node
  node_there =
      let f = of_own.node_fits k.leaf.good k.leaf.among site.node k.leaf.site_is.there in
      let n = node_inside b (shape b).records site.node (sound k.leaf.good k.leaf.among).has_shape.tiled (of_own.own_node k.leaf.good k.leaf.among site.node k.leaf.site_is.there).0 f in
      let e = same_site in
      record { low = n.low; inside = omega (arith, n.inside, e.size_is, w.as_long); room = omega (arith, n.room, e.room_is, w.as_long); entries = omega (arith, f.0, e.size_is, e.room_is); fits = omega (arith, f.1, e.used_is, e.room_is) }

  pub room_there : site.room ≡ room_at mid site.node
  room_there = k.leaf.site_is.room_is ∙ sym same_site.room_is

  pub number_there : site.number < site.room
  number_there = omega (arith, k.leaf.site_is.used, (of_own.node_fits k.leaf.good k.leaf.among site.node k.leaf.site_is.there).1, k.leaf.site_is.room_is)

  pub says_there : SaysEntry mid site.node site.number l.first l.last l.place
  says_there = same_site.entries site.number (omega (arith, number_there, k.leaf.site_is.room_is)) l.first l.last l.place k.leaf.site_is.says

-- ---- what it comes to

module _ {b now : List ℕ} {kind : Kind} {before : List VariableShape} {own : VariableShape} {after : List VariableShape} {site : Site} {l : Leaf} {records : Part} {plain : List ℕ} {packed : Bool} {bytes : List ℕ} {limit : ℕ} (k : IsLeafOf b kind before own after site l records plain packed bytes limit) (most : limit ≤ image_limit) where
  pub shortened_by_writing : (new : Leaf) → l.packed ≡ packed → stored_end packed (length bytes) ≤ size_at b l.place → Rewritten b now site l new bytes → new ≡ record l { first = records.first; last = records.last } → BlockShortened b now kind before own after l new plain
  shortened_by_writing new e le w is =
      let w' : Rewritten b now site l (record l { first = records.first; last = records.last }) bytes = subst (λ (y : Leaf). Rewritten b now site l y bytes) is w in
      subst (λ (y : Leaf). BlockShortened b now kind before own after l y plain) (sym is)
      (shortened_here k.good k.among l records.first records.last k.one k.lies bytes site.node site.number k.site_is.there k.site_is.used k.site_is.says w'.block (rw e le) w'.entry k.rle plain k.as_long (rw e k.stored) (omega (arith, k.room, most)))

  pub shortened_by_moving : (new : Leaf) → Moved b now site l new bytes → new.first ≡ records.first → new.last ≡ records.last → new.packed ≡ packed → (l.packed ≡ packed → stored_end packed (length bytes) ≤ size_at b l.place → ⊥) → BlockShortened b now kind before own after l new plain
  shortened_by_moving new m first last e moves =
      let few = bytes_short packed bytes 1073741824 (omega (arith, body_long packed bytes, k.room, most)) in
      let long = ap (λ (xs : List ℕ). length xs) m.given.1.1 in
      let body = body_long new.packed bytes in
      let room : length b + (8 + length (block_body new.packed bytes)) ≤ limit = rw e (omega (arith, body_long packed bytes, k.room)) in
      let lies : LiesIn l new.first new.last = rw (first, last) k.lies in
      shortened_anew k.good k.among l new k.one lies bytes site.node site.number k.site_is.there k.site_is.used k.site_is.says m.block m.entry plain k.rle (rw (first, last) k.as_long) (rw e k.stored) few m.given (omega (arith, m.block.longest, m.entry.as_long, m.given.1.0.0.length_is, long, room, most)) (rw e moves)
