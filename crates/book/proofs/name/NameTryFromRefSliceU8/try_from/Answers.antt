use Rattle.std.proofs.Common.{◌≡◌, ℕ, ◌<◌, true, List, sym, arith}
use Rattle.std.specs.Str.{IsAscii}
use Rattle.std.proofs.lemmas.Bool.Decides.{nat_tests}
use Rattle.std.proofs.lemmas.List.Sums.{AllPass-from_list_all}
use Rattle.std.proofs.lemmas.Str.{IsUtf8-from_ascii}
use Rattle.std.proofs.lemmas.Str.Ascii.{IsAscii-from_all}
use Rattle.book.specs.Names.{is_letter, letters}
use Rattle.book.proofs.name.NameTryFromRefSliceU8.try_from.Goals as goal

letter_ascii : (b : ℕ) → is_letter b ≡ true → b < 128
letter_ascii b h = grind (arith, nat_tests)

IsAscii-letters : (bs : List ℕ) → letters bs ≡ true → IsAscii bs
IsAscii-letters bs h = IsAscii-from_all bs (λ k d l. letter_ascii _ (AllPass-from_list_all is_letter bs h k d l))

-- bytes that are letters are a text
pub unreachable-requires : goal.unreachable-requires
unreachable-requires c =
    let bytes = c.args.bytes.now in
    c.in_default.ensures.cases.0 (IsUtf8-from_ascii bytes (IsAscii-letters bytes (sym c.if-not-are_letters.ensures)))
