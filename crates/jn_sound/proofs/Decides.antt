-- An act with two ways: `&&` and `||`. What is still to do, and the typing, go by the truth value on top.
use Rattle.std.proofs.Common.{◌≡◌, ℕ, List, [], ◌∷◌, length, Option, None, Bool, true, false, refl, sym, ap, ◌∙◌, subst}
use Rattle.std.specs.Prelude.{cond, take}
use Rattle.jn_base.specs.declared.tree.Expr.{Expr}
use Rattle.jn_base.specs.declared.tree.Program.{Program}
use Rattle.jn_base.specs.declared.types.Ty.TheVariants as ty
use Rattle.jn_base.specs.declared.names.Var.{Var}
use Rattle.jn_base.specs.Scopes.{Scope}
use Rattle.jn_sem.specs.Sets.{Views}
use Rattle.jn_sem.specs.Values.{Value, Truth, truth}
use Rattle.jn_sem.specs.Asks.{OnFirst}
use Rattle.jn_sem.specs.Acts.{Decide, Choose, Repeat, Todo, acts}
use Rattle.jn_base.specs.declared.tree.Stmt.{Stmt}
use Rattle.jn_sem.specs.State.{Heap, Frame, Variable, declared_vars}
use Rattle.jn_sem.specs.Does.{Did, Does, missing, on_truth, goes_with, chosen, repeated, decided, same_truth}
use Rattle.jn_sem.proofs.HeapLaws.{heap_laws}
use Rattle.jn_sound.specs.Takes.{Opd, opd}
use Rattle.jn_sound.specs.Takes.{Typing, typing}
use Rattle.jn_sound.specs.Sound.{HeapFits, StandsAt, OperandFits, OperandsFit, one, cut, all_views}
use Rattle.jn_sound.specs.Steps.{DidAt}
use Rattle.jn_sound.proofs.Acts.{no_path}
use Rattle.jn_sound.proofs.Stands.{now, stays_on}
use Rattle.jn_sound.proofs.GetStep.{stands_on}
use Rattle.jn_rules.specs.Headers.{Header}

-- what is still to do, and the typing, behind it: the right operand acts, or the left one is the value
abbrev pub todo_decided : (n : ℕ) → Expr → List Todo → (right : Bool) → List Todo
todo_decided n e k right = cond right (acts n e k) k

abbrev pub typing_decided : Scope → List Opd → (right : Bool) → Typing
typing_decided s ops right = cond right (typing s ops) (typing s (opd ty.Bool None ∷ ops))

long : (vs : List Variable) → length vs ≡ length (declared_vars vs)
long [] = refl
long (v ∷ vs) = ap (λ (n : ℕ). ℕ.suc n) (long vs)

pub decide_did : {p : Program} {h : Heap} {f : Frame} {x : Header} {vs : List Var} {s : Scope} {ops : List Opd}
    (m : ℕ) (and : Bool) (e : Expr) (k : List Todo) (q : Option ℕ) → HeapFits p h → StandsAt p h f x vs
    (typing s (opd ty.Bool q ∷ ops))
    → (u : Bool) (us : List Value) → f.vals ≡ Truth u ∷ us → (d : Did) → Does p m (Decide and e)
    (now (length vs) k f) h d
    → DidAt p h f x vs (todo_decided (length vs) e k (same_truth and u)) (typing_decided s ops (same_truth and u)) d
decide_did {p} {h} {f} {x} {vs} {s} {ops} m and e k q hf a u us fv d does =
    at (same_truth and u) (subst (λ (vals : List Value). OnFirst vals missing
    (λ v vals. on_truth v (λ b. decided (now (length vs) k f) e vals h b (same_truth and b))) d) fv does) where
      v : Views
      v = all_views (cut (length vs) f) a.fresh

      below : (vals : List Value) → vals ≡ Truth u ∷ us → OperandsFit p (take (length vs) f.vars) h s v
          (opd ty.Bool q ∷ ops) vals
          → OperandsFit p (take (length vs) f.vars) h s v ops us
      below vals is g = under (subst (OperandsFit p (take (length vs) f.vars) h s v (opd ty.Bool q ∷ ops)) is g) where
        under : OperandsFit p (take (length vs) f.vars) h s v (opd ty.Bool q ∷ ops) (Truth u ∷ us)
            → OperandsFit p (take (length vs) f.vars) h s v ops us
        under (one g r) = r

      others : OperandsFit p (take (length vs) f.vars) h s v ops us
      others = below f.vals fv a.stands.operands

      top : OperandFits p (take (length vs) f.vars) h s v (opd ty.Bool None) (Truth u)
      top =
          record {
            fits = record { atoms = λ c. absurd c };
            bound = λ r i. absurd (no_path r i);
            is_in = truth;
            real =
                tt;
            path = λ r i. absurd (no_path r i);
            held = λ r c i. absurd (no_path r.var.path i);
          }

      wide : length (take (length vs) f.vars) ≡ length vs
      wide = long (take (length vs) f.vars) ∙ ap (λ (l : List Var). length l) a.stands.in_scope.declared

      at : (right : Bool) → decided (now (length vs) k f) e us h u right d
          → DidAt p h f x vs (todo_decided (length vs) e k right) (typing_decided s ops right) d
      at true is =
          let k2 : List Todo = acts (length (take (length vs) f.vars)) e k in
          subst (DidAt p h f x vs (acts (length vs) e k) (typing s ops)) (sym is)
          (record {
            later = (heap_laws.heaps p).itself h;
            heap = hf;
            stays = stays_on a.stands k2 f.keeps us;
            todo = ap (λ (l : ℕ). acts l e k) wide;
            stands = record { fresh = a.fresh; stands = stands_on a.stands k2 f.keeps ops us others };
          })
      at false is =
          subst (DidAt p h f x vs k (typing s (opd ty.Bool None ∷ ops))) (sym is)
          (record {
            later = (heap_laws.heaps p).itself h;
            heap = hf;
            stays = stays_on a.stands k f.keeps (Truth u ∷ us);
            todo = refl;
            stands =
                record {
                  fresh = a.fresh;
                  stands = stands_on a.stands k f.keeps (opd ty.Bool None ∷ ops)
                      (Truth u ∷ us) (one top others);
                };
          })

-- ---- `if` and `while`: what is to be done goes by the truth value on top, and nothing is known of operands behind it

pub truth_did : {p : Program} {h : Heap} {f : Frame} {x : Header} {vs : List Var} {s : Scope} {ops : List Opd}
    (k : List Todo) (q : Option ℕ) (then : Bool → List Todo) → HeapFits p h
    → StandsAt p h f x vs (typing s (opd ty.Bool q ∷ ops)) → (u : Bool) (us : List Value) → f.vals ≡ Truth u ∷ us →
    (d : Did)
    → OnFirst f.vals missing (λ z us. on_truth z (λ b. goes_with (now (length vs) k f) us (then b) h)) d →
    DidAt p h f x vs (then u) (typing s ops) d
truth_did {p} {h} {f} {x} {vs} {s} {ops} k q then hf a u us fv d does =
    subst (DidAt p h f x vs (then u) (typing s ops))
    (sym (subst (λ (vals : List Value). OnFirst vals missing
    (λ z us. on_truth z (λ b. goes_with (now (length vs) k f) us (then b) h)) d) fv does))
    (record {
      later = (heap_laws.heaps p).itself h;
      heap = hf;
      stays = stays_on a.stands (then u) f.keeps us;
      todo = refl;
      stands =
          record {
            fresh = a.fresh;
            stands = stands_on a.stands (then u) f.keeps ops us
                (below f.vals fv a.stands.operands);
          };
    }) where
      v : Views
      v = all_views (cut (length vs) f) a.fresh

      under : OperandsFit p (take (length vs) f.vars) h s v (opd ty.Bool q ∷ ops) (Truth u ∷ us)
          → OperandsFit p (take (length vs) f.vars) h s v ops us
      under (one g r) = r

      below : (vals : List Value) → vals ≡ Truth u ∷ us → OperandsFit p (take (length vs) f.vars) h s v
          (opd ty.Bool q ∷ ops) vals
          → OperandsFit p (take (length vs) f.vars) h s v ops us
      below vals is g = under (subst (OperandsFit p (take (length vs) f.vars) h s v (opd ty.Bool q ∷ ops)) is g)

pub choose_did : {p : Program} {h : Heap} {f : Frame} {x : Header} {vs : List Var} {s : Scope} {ops : List Opd}
    (m path : ℕ) (left right : List Stmt) (k : List Todo) (q : Option ℕ) → HeapFits p h
    → StandsAt p h f x vs (typing s (opd ty.Bool q ∷ ops)) → (u : Bool) (us : List Value) → f.vals ≡ Truth u ∷ us →
    (d : Did) → Does p m (Choose path left right) (now (length vs) k f) h d
    → DidAt p h f x vs (chosen (now (length vs) k f) path left right u) (typing s ops) d
choose_did {f = f} {vs = vs} m path left right k q hf a u us fv d does =
    truth_did k q (chosen (now (length vs) k f) path left right) hf a u us fv d does

pub repeat_did : {p : Program} {h : Heap} {f : Frame} {x : Header} {vs : List Var} {s : Scope} {ops : List Opd}
    (m path : ℕ) (e : Expr) (body : List Stmt) (k : List Todo) (q : Option ℕ) → HeapFits p h
    → StandsAt p h f x vs (typing s (opd ty.Bool q ∷ ops)) → (u : Bool) (us : List Value) → f.vals ≡ Truth u ∷ us →
    (d : Did) → Does p m (Repeat path e body) (now (length vs) k f) h d
    → DidAt p h f x vs (repeated (now (length vs) k f) path e body u) (typing s ops) d
repeat_did {f = f} {vs = vs} m path e body k q hf a u us fv d does =
    truth_did k q (repeated (now (length vs) k f) path e body) hf a u us fv d does
