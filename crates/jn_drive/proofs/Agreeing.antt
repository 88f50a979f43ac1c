-- What a run of a right image replies, told of the program's meaning.
use Rattle.std.proofs.Common.{◌≡◌, ◌≢◌, ◌∙◌, ◌≤◌, ◌+◌, ◌*◌, ℕ, suc, List, sym, ap, subst, refl, Some, None}
use Rattle.std.specs.Prelude.{IsSome}
use Rattle.std.specs.declared.option.Option.{Option}
use Rattle.jn_steps.specs.Runs.{Report}
use Rattle.jn_steps.specs.Laws.{IsPrefix, GoesOn}
use Rattle.jn_steps.proofs.Runs.{prefix_trans}
use Rattle.jn_steps.proofs.Machines.{machine_goes_on}
use Rattle.jn_base.specs.declared.tree.Program.{Program}
use Rattle.jn_sem.specs.declared.outcome.Outcome.{Outcome}
use Rattle.jn_sem.specs.declared.outcome.Outcome.TheVariants as outcome
use Rattle.jn_sem.specs.Run.{Run}
use Rattle.jn_code.specs.declared.image.Image.{Image}
use Rattle.jn_code.specs.Machine.{mach, rules, boot}
use Rattle.jn_code.specs.Machine as code
use Rattle.jn_agree.specs.Agrees.{AgreesAt, InRange, SameEnd}
use Rattle.jn_link.specs.Joined.{IsImageOf}
use Rattle.jn_drive.specs.declared.status.Status.{Status}
use Rattle.jn_drive.specs.declared.status.Status.TheVariants as statuses
use Rattle.jn_drive.specs.Reply.{Reply, RunReply, IsToldAs, IsRightImage, TellsEnd, TellsRun}

-- ---- how ends are told

-- what isn't told as Steps has halted
has_halt : (o : Option code.Halt) (s : Status) (line : List ℕ) → IsToldAs o s line → s ≢ statuses.Steps
    → (q : code.Halt) × (o ≡ Some q)
has_halt (Some q) s line t not = (q, refl)
has_halt None s line t not = absurd (not t.0)

-- no end is told as Steps
no_end : (q : code.Halt) (s : Status) (line : List ℕ) → IsToldAs (Some q) s line → s ≡ statuses.Steps → ⊥
no_end code.Done s line t e = let h = sym t.0 ∙ e in absurd (cc)
no_end code.Null s line t e = let h = sym t.0 ∙ e in absurd (cc)
no_end code.Zero s line t e = let h = sym t.0 ∙ e in absurd (cc)
no_end code.Arena s line t e = let h = sym t.0 ∙ e in absurd (cc)
no_end code.Depth s line t e = let h = sym t.0 ∙ e in absurd (cc)
no_end code.Stuck s line t e = t

more_or_end : (o : Outcome) → (o ≢ outcome.More → ⊥) → o ≡ outcome.More
more_or_end outcome.More never = refl
more_or_end outcome.Ends never = absurd (never (λ e. absurd cc))
more_or_end outcome.Null never = absurd (never (λ e. absurd cc))
more_or_end outcome.Zero never = absurd (never (λ e. absurd cc))
more_or_end outcome.Arena never = absurd (never (λ e. absurd cc))
more_or_end outcome.Depth never = absurd (never (λ e. absurd cc))
more_or_end (outcome.Stuck why) never = absurd (never (λ e. absurd cc))

-- ---- more steps

mach_goes_on : (i : Image) (a d m n : ℕ) → m ≤ n → GoesOn (mach i a d m) (mach i a d n)
mach_goes_on i a d m n le = machine_goes_on (rules i a) d m n (boot i) le

-- A run that has halted stays as it is.
stays : (i : Image) (a d m n : ℕ) (o : Outcome) (printed : List ℕ) → m ≤ n → SameEnd i a d m o printed
    → SameEnd i a d n o printed
stays i a d m n o printed le same =
    let on = mach_goes_on i a d m n le in
    let later : mach i a d n ≡ mach i a d m = on.ended (subst IsSome (sym same.halted) refl) in
    record {
      halt = same.halt;
      ended = same.ended;
      halted = ap (λ (r : Report code.Halt). r.outcome) later ∙ same.halted;
      output = ap (λ (r : Report code.Halt). r.output) later ∙ same.output;
    }

-- ---- the reply

-- what `image` gives is a right image
pub right_image : (p : Program) (i : Image) → IsImageOf p i → IsRightImage p i
right_image p i is = record { valid = is.valid; rows = is.rows; agrees = is.agrees }

module _ (p : Program) (i : Image) (is : IsRightImage p i) (a d n : ℕ) (range : InRange a d) (reply : Reply)
    (run : RunReply (mach i a d n) reply) where
  at : AgreesAt i p a d
  at = is.agrees a d range

  tells : (o : Outcome) (printed : List ℕ) → SameEnd i a d n o printed → TellsEnd o printed reply
  tells o printed same = record {
    halt = same.halt;
    ended = same.ended;
    told = subst (λ (h : Option code.Halt). IsToldAs h reply.status reply.line) same.halted run.ended;
    output = run.output ∙ same.output;
  }

  ended_within : (b : ℕ) → 32 * b + 32 ≤ n → (o : Outcome) (printed : List ℕ) → Run p b a d o printed
      → o ≢ outcome.More → TellsEnd o printed reply
  ended_within b le o printed ran more =
      tells o printed (stays i a d (32 * b + 32) n o printed le (at.ended b o printed ran more))

  halted_as : reply.status ≢ statuses.Steps → (o : Outcome) (printed : List ℕ) → Run p (suc n) a d o printed
      → TellsEnd o printed reply
  halted_as not o printed ran =
      let q = has_halt _ reply.status reply.line run.ended not in
      tells o printed (at.halted n o printed q.0 ran q.1)

  not_ended : reply.status ≡ statuses.Steps → (b : ℕ) → 32 * b + 32 ≤ n → (o : Outcome) (printed : List ℕ)
      → Run p b a d o printed → o ≡ outcome.More
  not_ended steps b le o printed ran = more_or_end o (λ more.
      let t = ended_within b le o printed ran more in no_end t.halt reply.status reply.line t.told steps)

  pub tells_run : TellsRun p a d n reply
  tells_run = record {
    wrote = λ o printed ran. subst (λ (out : List ℕ). IsPrefix out printed) (sym run.output) (at.wrote n o printed ran);
    halted = halted_as;
    printed = λ b le o printed ran. subst (λ (out : List ℕ). IsPrefix printed out) (sym run.output)
        (prefix_trans printed (mach i a d (32 * b + 32)).output (mach i a d n).output (at.printed b o printed ran)
        (mach_goes_on i a d (32 * b + 32) n le).output);
    ended = ended_within;
    goes_on = not_ended;
    image = i;
    right = is;
    steps = run;
  }
