-- The laws of prints into a buffer.
use Rattle.std.proofs.Common.{◌≡◌, ℕ, ◌+◌, ◌^◌, ◌<◌, ◌≤◌, List, ◌++◌, length, take, drop, sym, ap, ◌∙◌, append_assoc, arith, length-append, length-drop}
use Rattle.std.proofs.lemmas.List.{drop-drop, length-take-le, take_at, drop_at}
use Rattle.text.specs.Put.{laid, Prints}

-- one print behind another
length-laid : (out : List ℕ) (at : ℕ) (bs : List ℕ) → at + length bs ≤ length out → length (laid out at bs) ≡ length out
length-laid out at bs h = simp (length-append, length-drop) (omega (arith, length-take-le at out (omega arith)))

laid_then : (out : List ℕ) (at : ℕ) (xs ys : List ℕ) → at ≤ length out → laid (laid out at xs) (at + length xs) ys ≡ laid out at (xs ++ ys)
laid_then out at xs ys h =
    let mid = laid out at xs in
    let i = at + length xs in
    let left = drop (at + length (xs ++ ys)) out in
    let long : length (take at out ++ xs) ≡ i = simp length-append (omega (arith, length-take-le at out h)) in
    let whole : mid ≡ (take at out ++ xs) ++ drop i out = sym (append_assoc (take at out) xs (drop i out)) in
    let front = ap (take i) whole ∙ take_at (take at out ++ xs) (drop i out) i long in
    let rest = ap (drop i) whole ∙ drop_at (take at out ++ xs) (drop i out) i long in
    let place : i + length ys ≡ at + length (xs ++ ys) = simp length-append (omega arith) in
    let behind = sym (drop-drop (length ys) i mid) ∙ ap (drop (length ys)) rest ∙ drop-drop (length ys) i out ∙ ap (λ k. drop k out) place in
    ap (λ f. f ++ (ys ++ drop (i + length ys) mid)) front
    ∙ ap (λ d. (take at out ++ xs) ++ (ys ++ d)) behind
    ∙ append_assoc (take at out) xs (ys ++ left)
    ∙ ap (λ d. take at out ++ d) (sym (append_assoc xs ys left))

pub prints_then : (out : List ℕ) (at : ℕ) (xs ys : List ℕ) (m r : ℕ) (mid after : List ℕ) → length out < 2 ^ 64 → Prints out at xs m mid → Prints mid m ys r after → Prints out at (xs ++ ys) r after
prints_then out at xs ys m r mid after short one two =
    let long = length-append xs ys in
    record {
      next = omega arith;
      fits = λ h.
          let mid-is = one.fits (omega arith) in
          let m-is : m ≡ at + length xs = omega arith in
          let same : length mid ≡ length out = ap length mid-is ∙ length-laid out at xs (omega arith) in
          two.fits (omega arith)
          ∙ ap (λ n. laid mid n ys) m-is
          ∙ ap (λ l. laid l (at + length xs) ys) mid-is
          ∙ laid_then out at xs ys (omega arith);
    }
