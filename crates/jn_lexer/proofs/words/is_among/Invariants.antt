use Rattle.std.proofs.Common.{◌≡◌, take, false, List, ℕ, Bor}
use Rattle.std.specs.List.{list_any}
use Rattle.std.specs.Str.{bytes_eq}
use Rattle.jn_lexer.proofs.words.is_among.Given as goal

-- it is none of the texts so far
abbrev pub invariant-loop-text : goal.invariant-loop-text
invariant-loop-text l = list_any (λ (text : Bor (List ℕ)). bytes_eq l.word text.now) (take l.text-index l.texts) ≡ false
