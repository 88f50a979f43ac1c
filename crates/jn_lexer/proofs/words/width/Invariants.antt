use Rattle.std.proofs.Common.{◌≡◌, take}
use Rattle.jn_base.specs.Tokens.{width}
use Rattle.jn_lexer.proofs.words.width.Given as goal

-- the bytes so far
abbrev pub invariant-loop-c : goal.invariant-loop-c
invariant-loop-c l = l.bytes ≡ width (take l.c-index l.cs)
