-- What the parser gives of the text of a program within the limits.
use Rattle.std.proofs.Common.{◌≡◌, ℕ, ◌≤◌, List, length, Ok, Err, subst, sym}
use Rattle.jn_base.specs.declared.tree.Program.{Program}
use Rattle.jn_base.specs.declared.refusal.Refusal.{Refusal}
use Rattle.jn_base.specs.Spelling.{IsTextOf, greatest_source}
use Rattle.jn_parser.specs.Parsing.{IsGiven}
use Rattle.jn_parser.specs.declared.fault.ParseFault.{ParseFault}
use Rattle.jn_parser.specs.declared.fault.ParseFault.TheVariants as fault
use Rattle.jn_base.specs.Unplaced.{IsSameButForPlaces}
use Rattle.jn_printer.specs.WayBack.{SpellsWithin}
use Rattle.jn_round_trip.proofs.Bridge.{within_is_text}

-- a program is given, the same as the printed one but for places; `now` are the bytes that were parsed
pub given_same : (p q : Program) (now bytes : List ℕ) → now ≡ bytes → SpellsWithin p bytes → length bytes ≤ greatest_source
    → ((s : Program) → IsTextOf s now → IsGiven {T = Program} (Ok q) s) → IsSameButForPlaces q p
given_same p q now bytes e w short only =
    let is_text : IsTextOf w.spelled now = subst (λ bs. IsTextOf w.spelled bs) (sym e) (within_is_text p bytes w short) in
    subst (λ s. IsSameButForPlaces s p) (sym (only w.spelled is_text)) w.same

-- and nothing is refused
pub never_refused : (p : Program) (f : ParseFault) (r : Refusal) (now bytes : List ℕ) → f ≡ fault.Refused r → now ≡ bytes → SpellsWithin p bytes → length bytes ≤ greatest_source
    → ((s : Program) → IsTextOf s now → IsGiven {T = Program} (Err f) s) → ⊥
never_refused p f r now bytes is e w short only =
    let is_text : IsTextOf w.spelled now = subst (λ bs. IsTextOf w.spelled bs) (sym e) (within_is_text p bytes w short) in
    subst (λ g. IsGiven {T = Program} (Err g) w.spelled) is (only w.spelled is_text)
