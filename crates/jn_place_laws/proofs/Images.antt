-- The image agrees with its program, where its codes stand at their places.
use Rattle.std.proofs.Common.{◌<◌, ℕ, refl, arith}
use Rattle.jn_base.specs.declared.tree.Program.{Program}
use Rattle.jn_base.specs.WithinLimits.{IsWithinLimits}
use Rattle.jn_code.specs.Machine.{Halt}
use Rattle.jn_code.specs.Machine as machine
use Rattle.jn_sem.specs.declared.outcome.Outcome.TheVariants as outcome
use Rattle.jn_laws.proofs.PlacesAside.{programs_within_limits}
use Rattle.jn_rules.specs.Verdict.{TreePasses}
use Rattle.jn_sound.proofs.Accepted.{laws}
use Rattle.jn_sound.proofs.NeverStuck.{needs_are_met, never_stuck}
use Rattle.jn_agree.specs.Agrees.{InRange, NeverStuck}
use Rattle.jn_link_laws.proofs.Agreed.{image_agrees}
use Rattle.jn_node_laws.proofs.Entries.{entries_follow}
use Rattle.jn_place_laws.specs.Contexts.{known}
use Rattle.jn_place_laws.specs.LawsOfPlaces.{ImageAgrees}
use Rattle.jn_place_laws.proofs.Agree.{bodies_agree_so}
use Rattle.jn_place_laws.proofs.Begins.{Stage, StandsAt}
use Rattle.jn_place_laws.proofs.Start.{start_typed}

-- a run that isn't stuck ends as the machine halts, or goes on
halts : (p : Program) → IsWithinLimits p → TreePasses p → NeverStuck p
halts p w ok b a d out outcome.Ends range run more = (machine.Done, refl)
halts p w ok b a d out outcome.Null range run more = (machine.Null, refl)
halts p w ok b a d out outcome.Zero range run more = (machine.Zero, refl)
halts p w ok b a d out outcome.Arena range run more = (machine.Arena, refl)
halts p w ok b a d out outcome.Depth range run more = (machine.Depth, refl)
halts p w ok b a d out outcome.More range run more = absurd (more refl)
halts p w ok b a d out (outcome.Stuck y) range run more =
    absurd (never_stuck p w ok b a d (outcome.Stuck y) out run y refl)

small : (a d : ℕ) → InRange a d → a < 4294967296
small a d range = let l = range.most_cells in omega (arith, l)

pub image_agrees_so : ImageAgrees
image_agrees_so p w ok i n rows few stands it there start void =
    let all = laws p (programs_within_limits p w) ok (needs_are_met p w ok) in
    image_agrees (known p) p i n (halts p w ok)
    (λ a d b range. bodies_agree_so p w ok i n a rows few (small a d range) stands b)
    (λ a d range. (entries_follow (known p) Stage (StandsAt p) p i n a i.start it there rows).started (small a d range) few
    (λ V name u. all.once.body V name u) (λ bytes. all.once.spelled bytes) start refl
    (start_typed p all i n a i.start it start void))
