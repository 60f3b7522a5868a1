-- An image with other variables of a kind has these.
use Rattle.cdf_vars.proofs.Common.{Kind, List, R, Shape, VariableShape, Z, ap, shape, shapes_of, with_shapes, ℕ, ◌≡◌}

pub own_now : (b now : List ℕ) {records unused : List ℕ} (ws : List VariableShape) (kind : Kind) → shape now ≡ with_shapes (shape b) kind records unused ws → shapes_of (shape now) kind ≡ ws
own_now b now ws R is = ap (λ (s : Shape). s.r_variables) is
own_now b now ws Z is = ap (λ (s : Shape). s.z_variables) is
