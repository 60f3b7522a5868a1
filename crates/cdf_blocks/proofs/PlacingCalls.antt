-- What the calls ask for that place the block of a leaf anew.
use Rattle.cdf_blocks.proofs.Common.{Bool, In, Leaf, List, [], arith, inl, length, refl, room_at, subst, sym, times, ℕ, ◌+◌, ◌<◌, ◌∙◌, ◌∷◌, ◌≡◌, ◌≤◌}
use Rattle.cdf_edits.proofs.Common.{AreFree, IsBody, IsGiven, IsSound, good_is_sound, image_limit, owned_records, shape}
use Rattle.cdf_edits.specs.Space.Placing.{Placed}
use Rattle.cdf_index.proofs.Common.{EntrySet, NodeInside}
use Rattle.cdf_leaves.proofs.Own as of_own
use Rattle.cdf_leaves.proofs.Spares.{Spares, fits_still, node_inside}
use Rattle.cdf_edits.proofs.Edits.RecordGrown.{Grew, grew}
use Rattle.cdf_blocks.specs.Blocks.{HasLeaf, block_body}
use Rattle.cdf_blocks.specs.Replaced.{Moved}
use Rattle.cdf_blocks.specs.declared.placing.Part.{Part}
use Rattle.cdf_blocks.specs.declared.placing.Site.{Site}
use Rattle.cdf_blocks.proofs.MovedLinked as of_linked
use Rattle.cdf_blocks.proofs.NewBlock.{body_is, body_long, bytes_short}

module _ {b : List ℕ} {site : Site} {l : Leaf} {records : Part} {packed : Bool} {bytes : List ℕ} {limit : ℕ} (k : HasLeaf b site l records packed bytes limit) where
  pub sound_before : IsSound b (shape b)
  sound_before = good_is_sound b k.leaf.good

  pub body_fits : (body : List ℕ) → body ≡ block_body packed bytes → IsBody body × (length b + (8 + length body) ≤ limit)
  body_fits body e = rw e ((body_is packed bytes).1, omega (arith, body_long packed bytes, k.leaf.room))

  pub few : limit ≤ image_limit → length bytes ≤ image_limit
  few le = bytes_short packed bytes 1073741824 (omega (arith, body_long packed bytes, k.leaf.room, le))

  module _ (most : limit ≤ image_limit) {filled body : List ℕ} {place : ℕ} (e : body ≡ block_body packed bytes) (placed : Placed b filled body place) where
    block : Placed b filled (block_body packed bytes) place
    block = subst (λ (xs : List ℕ). Placed b filled xs place) e placed

    pub filled_short : length filled ≤ image_limit
    filled_short = omega (arith, block.longest, body_long packed bytes, k.leaf.room, most)

    late : Grew b filled
    late = grew sound_before block.fills

    spares : Spares b filled site.node
    spares = of_own.node_spares k.leaf.good k.leaf.among late site.node k.leaf.site_is.there

    -- the node, once the record was taken
    pub node_there : NodeInside filled site.node
    node_there =
        node_inside filled (shape filled).records site.node late.sound.has_shape.tiled (late.sub site.node (of_own.own_node k.leaf.good k.leaf.among site.node k.leaf.site_is.there).0)
        (fits_still b filled site.node spares (of_own.node_fits k.leaf.good k.leaf.among site.node k.leaf.site_is.there))

    pub room_there : site.room ≡ room_at filled site.node
    room_there = k.leaf.site_is.room_is ∙ sym spares.room_is

    pub number_there : site.number < site.room
    number_there = omega (arith, k.leaf.site_is.used, (of_own.node_fits k.leaf.good k.leaf.among site.node k.leaf.site_is.there).1, k.leaf.site_is.room_is)

    -- the image, once the entry names the record
    module _ {linked : List ℕ} (set : EntrySet filled linked site.node site.number records.first records.last place) where
      abbrev new : Leaf
      new = record { first = records.first; last = records.last; place = place; packed = packed }

      pub linked_sound : IsSound linked (shape linked)
      linked_sound = of_linked.linked_sound k.leaf.good k.leaf.among l new k.leaf.one k.leaf.lies bytes site.node site.number k.leaf.site_is.there k.leaf.site_is.used k.leaf.site_is.says block set k.plain k.leaf.rle k.leaf.as_long k.leaf.stored (few most)

      pub old_free : AreFree linked (l.place ∷ [])
      old_free = of_linked.old_free k.leaf.good k.leaf.among l new k.leaf.one k.leaf.lies bytes site.node site.number k.leaf.site_is.there k.leaf.site_is.used k.leaf.site_is.says block set k.plain k.leaf.rle k.leaf.as_long k.leaf.stored (few most)

      pub moved : {now : List ℕ} → IsGiven linked now (shape linked) (shape now) l.place → Moved b now site l new bytes
      moved {now = now} given = record { filled = filled; block = block; linked = linked; entry = set; given = (now, (given, refl)) }

      pub old_in : In l.place (shape linked).records
      old_in = old_free.stand l.place (inl refl)

      pub old_unowned : times l.place (owned_records linked (shape linked)) ≡ 0
      old_unowned = old_free.unowned l.place (inl refl)
