-- A file is well formed exactly where it keeps the rules of the format and all of its image is read so far.
use Rattle.std.proofs.Common.{List, ℕ}
use Rattle.cdf_format.proofs.Common.{Hold, KeepsFormat, WellFormed, image_of, owned_records, shape}
use Rattle.cdf_format.proofs.RowLemmas.{Hold-append, Hold-split}
use Rattle.cdf_format.specs.NotRead.{IsRead, unread_variables}
use Rattle.cdf_format.specs.Phases.{phase9}
use Rattle.cdf_format.specs.Shape.{variables, vdrs}

module _ (f : List ℕ) where
  both : WellFormed f → IsRead (image_of f) × Hold (phase9 (shape (image_of f)).records (owned_records (image_of f) (shape (image_of f))))
  both w = Hold-split (unread_variables (image_of f) (vdrs (variables (shape (image_of f))))) _ w.1.1.1.1.1.1.1.1.1.0

  pub keeps : WellFormed f → KeepsFormat f
  keeps w = (w.0, (w.1.0, (w.1.1.0, (w.1.1.1.0, (w.1.1.1.1.0, (w.1.1.1.1.1.0, (w.1.1.1.1.1.1.0, (w.1.1.1.1.1.1.1.0, (w.1.1.1.1.1.1.1.1.0, ((both w).1, (w.1.1.1.1.1.1.1.1.1.1.0, tt)))))))))))

  pub is_read : WellFormed f → IsRead (image_of f)
  is_read w = (both w).0

  pub is_well_formed : KeepsFormat f → IsRead (image_of f) → WellFormed f
  is_well_formed k read =
      let nine = Hold-append (unread_variables (image_of f) (vdrs (variables (shape (image_of f))))) _ read k.1.1.1.1.1.1.1.1.1.0 in
      (k.0, (k.1.0, (k.1.1.0, (k.1.1.1.0, (k.1.1.1.1.0, (k.1.1.1.1.1.0, (k.1.1.1.1.1.1.0, (k.1.1.1.1.1.1.1.0, (k.1.1.1.1.1.1.1.1.0, (nine, (k.1.1.1.1.1.1.1.1.1.1.0, tt)))))))))))
