-- Of two numbers with a given sum the product is largest where they are nearest.
use Rattle.std.proofs.Common.{◌≡◌, ℕ, ◌+◌, ◌-◌, ◌*◌, ◌≤◌, ap, inl, inr, mul-le-mul_right, mul_comm, mul-le-mul_left, arith}
use Rattle.std.proofs.lemmas.Bool.{cases_lt}
use Rattle.book.specs.Limits.{most_events, most_loop}

low : (a b : ℕ) → a ≤ 20 → a + b ≤ 41 → a * b ≤ 420
low a b h l =
    let t : ℕ = 20 - a in
    let s : a + t ≡ 20 = omega arith in
    let u : b ≤ 21 + t = omega arith in
    let v : a ≤ 21 = omega arith in
    let w : (a + t) * 21 ≡ 420 = ap (λ (x : ℕ). x * 21) s in
    omega (arith, mul-le-mul_left a u, mul-le-mul_right t v)

pub product_few : (m r : ℕ) → m + r ≤ most_events → m * (r + 1) ≤ most_loop
product_few m r l = elim (cases_lt 20 m) [ inl h ↦ (let k = low (r + 1) m (omega arith) (omega arith) in omega (arith, mul_comm m (r + 1))) | inr h ↦ low m (r + 1) h (omega arith) ]
