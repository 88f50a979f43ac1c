-- What comes back of a program whose text is parsed.
use Rattle.std.specs.Prelude.{◌<◌, length}
use Rattle.jn_base.specs.declared.tree.Program.{Program}
use Rattle.jn_base.specs.Spelling.{greatest_source}
use Rattle.jn_printer.specs.DeclText.{program_text}
use Rattle.jn_base.specs.Unplaced.{IsSameButForPlaces}
use Rattle.jn_round_trip.specs.declared.Returned.{Returned}
use Rattle.jn_round_trip.specs.declared.Returned.TheVariants.{Parsed, Refused, TooLong, Memory}

-- The program comes back as it was, but for its places: its text is never refused, and is too long only where it has more
-- bytes than a source may have.
abbrev pub ComesBack : Program → Returned → Type 0
ComesBack p (Parsed q) = IsSameButForPlaces q p
ComesBack p (Refused r) = ⊥
ComesBack p TooLong = greatest_source < length (program_text p)
ComesBack p Memory = Unit {0}
