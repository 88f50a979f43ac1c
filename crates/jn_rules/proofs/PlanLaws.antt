-- Plans: one answer, and the way forwards and back through `then_do` and its like.
use Rattle.std.proofs.Common.{◌≡◌, List, [], ◌∷◌, ◌++◌, Bool, true, false, Option, Some, None, refl, sym, ap, ◌∙◌, subst}
use Rattle.std.specs.Prelude.{Result, Ok, Err}
use Rattle.jn_base.specs.declared.tree.Program.{Program}
use Rattle.jn_base.specs.declared.refusal.Refusal.{Refusal}
use Rattle.jn_rules.specs.Plans.{Query, Reply, Mark, Plan, done, refuse, note, ask, then_do, wants, taken, found_or}
use Rattle.jn_rules.specs.Questions.{Means, Gives, Notes}
use Rattle.jn_rules.specs.LawsOfPlans.{Came, CameRefused, at_first, behind, Noted, Tested, held, failed, Took, given, refused, Found, there, absent, PlanLaws, RepliesAreOne, RepliesAreThere, PlanIsSure}

not_ok : {A : Type 0} {r : Refusal} {a : A} → (let e : Result A Refusal = Err r in e ≡ Ok a) → ⊥
not_ok e = cc

not_err : {A : Type 0} {r : Refusal} {a : A} → (let e : Result A Refusal = Ok a in e ≡ Err r) → ⊥
not_err e = cc

err_err : {A B : Type 0} {r s : Refusal} → (let e : Result A Refusal = Err r in e ≡ Err s) → (let e : Result B Refusal = Err r in e ≡ Err s)
err_err e = cc

ok_ok : {A : Type 0} {a b : A} → (let e : Result A Refusal = Ok a in e ≡ Ok b) → a ≡ b
ok_ok e = cc

-- ---- one answer

pub plan_one : {A : Type 0} {p : Program} → RepliesAreOne p → (x : Plan A) (a b : Result A Refusal) → Gives p x a → Gives p x b → a ≡ b
plan_one one (done x) a b g h = g ∙ sym h
plan_one one (refuse r) a b g h = g ∙ sym h
plan_one one (note m x) a b g h = plan_one one x a b g h
plan_one {A} {p} one (ask q go) a b g h =
    plan_one one (go g.0) a b g.2 (subst (λ y. Gives p (go y) b) (sym (one q g.0 h.0 g.1 h.1)) h.2)

pub notes_one : {A : Type 0} {p : Program} → RepliesAreOne p → (x : Plan A) (ms ns : List Mark) (a b : A) → Notes p x ms a → Notes p x ns b → ms ≡ ns
notes_one one (done x) ms ns a b g h = g.0 ∙ sym h.0
notes_one one (refuse r) ms ns a b g h = absurd g
notes_one one (note m x) ms ns a b g h = g.1 ∙ ap (λ l. m ∷ l) (notes_one one x g.0 h.0 a b g.2 h.2) ∙ sym h.1
notes_one {A} {p} one (ask q go) ms ns a b g h =
    notes_one one (go g.0) ms ns a b g.2 (subst (λ y. Notes p (go y) ns b) (sym (one q g.0 h.0 g.1 h.1)) h.2)

-- each plan has an answer, where each question has one
pub plan_there : {A : Type 0} {p : Program} → RepliesAreThere p → (x : Plan A) → ((a : Result A Refusal) → Gives p x a → ⊥) → ⊥
plan_there all (done x) free = free (Ok x) refl
plan_there all (refuse r) free = free (Err r) refl
plan_there all (note m x) free = plan_there all x free
plan_there all (ask q go) free = all q (λ a m. plan_there all (go a) (λ o g. free o (a, m, g)))

pub plan_sure : (A : Type 0) (p : Program) (x : Plan A) → PlanIsSure A p x
plan_sure A p x = record { one = λ one. plan_one one x; one_list = λ one. notes_one one x; there = λ all. plan_there all x }

-- ---- one plan after the other

pub then_gives : {A B : Type 0} (p : Program) (x : Plan A) (go : A → Plan B) (a : A) (o : Result B Refusal) → Gives p x (Ok a) → Gives p (go a) o → Gives p (then_do x go) o
then_gives {A} {B} p (done y) go a o g h = subst (λ z. Gives p (go z) o) (ok_ok g) h
then_gives p (refuse r) go a o g h = absurd (not_ok (sym g))
then_gives p (note m x) go a o g h = then_gives p x go a o g h
then_gives p (ask q next) go a o g h = (g.0, g.1, then_gives p (next g.0) go a o g.2 h)

pub then_refuses : {A B : Type 0} (p : Program) (x : Plan A) (go : A → Plan B) (r : Refusal) → Gives p x (Err r) → Gives p (then_do x go) (Err r)
then_refuses p (done y) go r g = absurd (not_ok g)
then_refuses p (refuse s) go r g = err_err g
then_refuses p (note m x) go r g = then_refuses p x go r g
then_refuses p (ask q next) go r g = (g.0, g.1, then_refuses p (next g.0) go r g.2)

pub then_notes : {A B : Type 0} (p : Program) (x : Plan A) (go : A → Plan B) (ms ns : List Mark) (a : A) (b : B) → Notes p x ms a → Notes p (go a) ns b
    → Notes p (then_do x go) (ms ++ ns) b
then_notes {A} {B} p (done y) go ms ns a b g h = subst (λ l. Notes p (go y) (l ++ ns) b) (sym g.0) (subst (λ z. Notes p (go z) ns b) g.1 h)
then_notes p (refuse r) go ms ns a b g h = absurd g
then_notes p (note m x) go ms ns a b g h = (g.0 ++ ns, ap (λ l. l ++ ns) g.1, then_notes p x go g.0 ns a b g.2 h)
then_notes p (ask q next) go ms ns a b g h = (g.0, g.1, then_notes p (next g.0) go ms ns a b g.2 h)

pub then_came : {A B : Type 0} {p : Program} (x : Plan A) (go : A → Plan B) (b : B) → Gives p (then_do x go) (Ok b) → Came p x go b
then_came (done a) go b g = record { first = a; gave = refl; then = g }
then_came (refuse r) go b g = absurd (not_err g)
then_came (note m next) go b g = let c = then_came next go b g in record { first = c.first; gave = c.gave; then = c.then }
then_came (ask q next) go b g =
    let c = then_came (next g.0) go b g.2 in
    record { first = c.first; gave = (g.0, g.1, c.gave); then = c.then }

pub then_refused : {A B : Type 0} {p : Program} (x : Plan A) (go : A → Plan B) (r : Refusal) → Gives p (then_do x go) (Err r) → CameRefused p x go r
then_refused (done a) go r g = behind a refl g
then_refused (refuse s) go r g = at_first (err_err g)
then_refused (note m next) go r g = as_noted (then_refused next go r g) where
  as_noted : {A B : Type 0} {p : Program} {m : Mark} {next : Plan A} {go : A → Plan B} {r : Refusal} → CameRefused p next go r → CameRefused p (note m next) go r
  as_noted (at_first h) = at_first h
  as_noted (behind a h k) = behind a h k
then_refused (ask q next) go r g = as_asked g.0 g.1 (then_refused (next g.0) go r g.2) where
  as_asked : {A B : Type 0} {p : Program} {q : Query} {next : Reply q → Plan A} {go : A → Plan B} {r : Refusal} (x : Reply q) → Means p q x → CameRefused p (next x) go r → CameRefused p (ask q next) go r
  as_asked x m (at_first h) = at_first (x, m, h)
  as_asked x m (behind a h k) = behind a (x, m, h) k

pub then_noted : {A B : Type 0} {p : Program} (x : Plan A) (go : A → Plan B) (ms : List Mark) (b : B) → Notes p (then_do x go) ms b → Noted p x go ms b
then_noted (done a) go ms b g = record { first = a; before = []; after = ms; noted = (refl, refl); then = g; all = refl }
then_noted (refuse r) go ms b g = absurd g
then_noted (note m next) go ms b g =
    let c = then_noted next go g.0 b g.2 in
    record { first = c.first; before = m ∷ c.before; after = c.after; noted = (c.before, refl, c.noted); then = c.then; all = g.1 ∙ ap (λ l. m ∷ l) c.all }
then_noted (ask q next) go ms b g =
    let c = then_noted (next g.0) go ms b g.2 in
    record { first = c.first; before = c.before; after = c.after; noted = (g.0, g.1, c.noted); then = c.then; all = c.all }

-- ---- tests, and what was resolved or found

pub was_tested : {A : Type 0} {p : Program} (t : Bool) (r : Refusal) (go : Plan A) (o : Result A Refusal) → Gives p (wants t r go) o → Tested p t r go o
was_tested true r go o g = held refl g
was_tested false r go o g = failed refl g

pub was_taken : {A B : Type 0} {p : Program} (x : Result A Refusal) (go : A → Plan B) (o : Result B Refusal) → Gives p (taken go x) o → Took p x go o
was_taken (Ok a) go o g = given a refl g
was_taken (Err r) go o g = refused r refl g

pub was_found : {A B : Type 0} {p : Program} (x : Option A) (r : Refusal) (go : A → Plan B) (o : Result B Refusal) → Gives p (found_or r go x) o → Found p x r go o
was_found (Some a) r go o g = there a refl g
was_found None r go o g = absent refl g

-- the same of an answer that is no refusal
pub record Held {A : Type 0} (p : Program) (t : Bool) (go : Plan A) (a : A) : Type 0 where
  pub test : t ≡ true
  pub then : Gives p go (Ok a)

pub wanted : {A : Type 0} {p : Program} (t : Bool) (r : Refusal) (go : Plan A) (a : A) → Gives p (wants t r go) (Ok a) → Held p t go a
wanted true r go a g = record { test = refl; then = g }
wanted false r go a g = absurd (not_err g)

pub record Given {A B : Type 0} (p : Program) (x : Result A Refusal) (go : A → Plan B) (b : B) : Type 0 where
  pub given : A
  pub is : x ≡ Ok given
  pub then : Gives p (go given) (Ok b)

pub took : {A B : Type 0} {p : Program} (x : Result A Refusal) (go : A → Plan B) (b : B) → Gives p (taken go x) (Ok b) → Given p x go b
took (Ok a) go b g = record { given = a; is = refl; then = g }
took (Err r) go b g = absurd (not_err g)

pub record WasThere {A B : Type 0} (p : Program) (x : Option A) (go : A → Plan B) (b : B) : Type 0 where
  pub given : A
  pub is : x ≡ Some given
  pub then : Gives p (go given) (Ok b)

pub found_was : {A B : Type 0} {p : Program} (x : Option A) (r : Refusal) (go : A → Plan B) (b : B) → Gives p (found_or r go x) (Ok b) → WasThere p x go b
found_was (Some a) r go b g = record { given = a; is = refl; then = g }
found_was None r go b g = absurd (not_err g)

-- ---- marks

ok_of : {A : Type 0} {a b : A} → a ≡ b → (let e : Result A Refusal = Ok a in e ≡ Ok b)
ok_of e = ap Ok e

pub notes_give : {A : Type 0} (p : Program) (x : Plan A) (ms : List Mark) (a : A) → Notes p x ms a → Gives p x (Ok a)
notes_give {A} p (done b) ms a g = ok_of g.1
notes_give p (refuse r) ms a g = absurd g
notes_give p (note m x) ms a g = notes_give p x g.0 a g.2
notes_give p (ask q go) ms a g = (g.0, g.1, notes_give p (go g.0) ms a g.2)

pub notes_there : {A : Type 0} (p : Program) (x : Plan A) (a : A) → Gives p x (Ok a) → (ms : List Mark) × Notes p x ms a
notes_there p (done b) a g = ([], (refl, ok_ok g))
notes_there p (refuse r) a g = absurd (not_err g)
notes_there p (note m x) a g = let n = notes_there p x a g in (m ∷ n.0, (n.0, refl, n.1))
notes_there p (ask q go) a g = let n = notes_there p (go g.0) a g.2 in (n.0, (g.0, g.1, n.1))

pub plan_laws : (A B : Type 0) (p : Program) → PlanLaws A B p
plan_laws A B p = record {
  sequences = record { gives = then_gives p; refuses = then_refuses p; notes = then_notes p; came = then_came; refused = then_refused; noted = then_noted };
  turned = record { tested = was_tested; took = was_taken; found = was_found };
  marks = record { given = notes_give p; marked = notes_there p };
}
