-- the command that a parse met, with what it found
use Rattle.std.proofs.Common.{◌≡◌, Option, Some, None, option_map, refl, ap, ap₂}

pub first_of_pairs : {X A B : Type 0} (o : Option X) (f : X → A) (g : X → B)
    → option_map (λ (p : A × B). p.0) (option_map (λ (x : X). (f x, g x)) o) ≡ option_map f o
first_of_pairs (Some x) f g = refl
first_of_pairs None f g = refl

-- a pair of which both halves are known
pub pair_of : {A B : Type 0} (o : Option (A × B)) (a : A) (b : B) → Some a ≡ option_map (λ (p : A × B). p.0) o
    → Some b ≡ option_map (λ (p : A × B). p.1) o → o ≡ Some (a, b)
pair_of (Some p) a b h k =
    let first : p.0 ≡ a = cc in
    let second : p.1 ≡ b = cc in
    ap Some (ap₂ (λ x y. (x, y)) first second)
pair_of None a b h k = cc
