use Rattle.std.proofs.Common.{◌≡◌, get_or, sym, ap, ◌∙◌, rules}
use Rattle.std.proofs.lemmas.List.{get_or_read}
use Rattle.search.specs.declared.item.Item.{Item}
use Rattle.timetable.proofs.Records.{coded_at}
use Rattle.timetable.proofs.found.code_at.Goals as goal

pub returns-in-Some-clause-code : goal.returns-in-Some-clause-code
returns-in-Some-clause-code c l =
    let items = c.args.items.now in
    let path = c.args.path.now in
    let i = c.index-items-from.result in
    let n : c.from.result ≡ get_or path c.args.k 0 = search (rules, get_or_read) in
    ap (λ (x : Item). x.code) (sym c.index-items-from.is) ∙ sym (coded_at items path c.args.k i c.requires l (c.index-items-from.is ∙ ap (λ m. get_or items m i) n))
