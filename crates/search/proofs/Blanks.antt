-- A list of one value has it at each place, and past its end.
use Rattle.std.proofs.Common.{◌≡◌, ℕ, zero, suc, get_or, replicate, refl}

pub get_or-replicate_same : {A : Type 0} (n k : ℕ) (a : A) → get_or (replicate n a) k a ≡ a
get_or-replicate_same zero k a = refl
get_or-replicate_same (suc n) zero a = refl
get_or-replicate_same (suc n) (suc k) a = get_or-replicate_same n k a
