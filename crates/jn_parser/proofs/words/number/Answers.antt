use Rattle.std.proofs.Common.{ℕ, Vec, Global, refl}
use Rattle.std.specs.Str.{bytes_eq}
use Rattle.jn_parser.proofs.Numbering.{numbers_is}
use Rattle.jn_parser.proofs.words.number.Goals as goal

pub returns-clause-numbered : goal.returns-clause-numbered
returns-clause-numbered c =
    let is = numbers_is (λ (k : Vec ℕ Global). k.items) (λ (a : Vec ℕ Global) (b : Vec ℕ Global). bytes_eq a.items b.items) (λ a b. refl) c.args.table.now.keys c.args.word in
    rw (c.in_ok-index.ensures.keys, c.in_ok-index.ensures.index) is
