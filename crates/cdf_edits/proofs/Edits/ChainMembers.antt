-- An attribute among those of an image: that it is there, and what is known of each member of one of its chains of entries.
use Rattle.cdf_edits.proofs.Common.{AttributeShape, Avoids, Each, Edit, EntryFits, EntryKind, In, IsSound, List, Mark, [], chain_of, entries_chain, entry_type, inl, inr, linkable-in, linkable-long, linkable-type, members_of, shape, size_at, subst, sym, ℕ, ◌++◌, ◌∷◌, ◌≡◌}
use Rattle.cdf_edits.proofs.Edits.AttributeFrame.{AreThere}
use Rattle.cdf_edits.proofs.Edits.ChainKinds.{chain_fits, chain_has}
use Rattle.cdf_edits.proofs.Edits.ChainsOfShape.{members_are}
use Rattle.cdf_edits.proofs.Edits.EntryFields.{of_shape}
use Rattle.cdf_edits.proofs.Edits.FieldWritten.{Stands}
use Rattle.cdf_edits.proofs.Edits.RecordFrame.{kept_but_link}
use Rattle.cdf_edits.proofs.Edits.Splice.{parts_there}
use Rattle.cdf_edits.proofs.Frame.Meaning.{KeptButLink}

-- an attribute among those of an image
pub record IsAmong (b : List ℕ) (before : List AttributeShape) (own : AttributeShape) (after : List AttributeShape) : Type 0 where
  pub was : (shape b).attributes ≡ before ++ own ∷ after

module _ {b : List ℕ} {before : List AttributeShape} {own : AttributeShape} {after : List AttributeShape} (kind : EntryKind) (sound : IsSound b (shape b)) (at : IsAmong b before own after) where
  pub own_there : AreThere b (shape b).records (own ∷ [])
  own_there = (parts_there b (shape b) sound before (own ∷ []) after at.was).1.0

  pub members_chain : members_of b (entries_chain kind own.adr) ≡ chain_of own kind
  members_chain = members_are sound.has_shape (of_shape kind (shape b) own own_there.have.0)

  pub member : (m : ℕ) → In m (chain_of own kind) → Stands b (shape b).records m (entry_type kind) 28
  member m i =
      let ok = (chain_has kind own own_there.have.0).linkable m i in
      record { inside = linkable-in b (shape b).records (entry_type kind) m ok; typed = linkable-type b (shape b).records (entry_type kind) m ok; long = linkable-long b (shape b).records (entry_type kind) m ok }

  pub member_fits : (m : ℕ) → In m (chain_of own kind) → EntryFits b m
  member_fits m i = each (chain_of own kind) (chain_fits kind b own own_there.fit.0) i
    where
      each : (es : List ℕ) → Each (EntryFits b) es → In m es → EntryFits b m
      each [] f i = absurd i
      each (x ∷ es) f (inl e) = subst (EntryFits b) (sym e) f.0
      each (x ∷ es) f (inr i) = each es f.1 i

  pub member_kept : {now records reborn : List ℕ} {marks : List Mark} → Edit b now (shape b).records records marks reborn → (m : ℕ) → In m (chain_of own kind) → Avoids marks (entry_type kind) m 0 12 → Avoids marks (entry_type kind) m 20 (size_at b m) → KeptButLink b now m
  member_kept edit m i start rest = let is = member m i in kept_but_link edit m (entry_type kind) is.inside is.typed start rest
