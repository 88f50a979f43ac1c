use Rattle.std.proofs.Common.{ap, arith}
use Rattle.std.specs.Prelude.{◌==◌}
use Rattle.std.specs.Int.{w32}
use Rattle.std.proofs.lemmas.Bool.Decides.{nat_tests}
use Rattle.jn_code.specs.SpellsFields.{number}
use Rattle.jn_code.specs.SpellsFields as spells
use Rattle.jn_code.specs.SpellsFile.{magic}
use Rattle.jn_imagefile.proofs.Passing.{passes, fails}
use Rattle.jn_imagefile.proofs.reading.magic_at.Goals as goal

pub returns-then-magic-ne-MAGIC : goal.returns-then-magic-ne-MAGIC
returns-then-magic-ne-MAGIC c =
    fails (λ n. n == magic) (λ left. spells.Magic) (number w32) c.args.bytes.now (c.in_ok-magic.magic, c.in_ok-magic.rest.now) c.in_ok-magic.ensures (grind (arith, nat_tests))

pub returns : goal.returns
returns c =
    passes (λ n. n == magic) (λ left. spells.Magic) (number w32) c.args.bytes.now (c.in_ok-magic.magic, c.in_ok-magic.rest.now) c.in_ok-magic.ensures (ap (λ n. n == magic) c.if-magic-ne-MAGIC.false)
