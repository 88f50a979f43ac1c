-- Arguments: each step of the walk, and what it does.
use Rattle.std.proofs.Common.{◌≡◌, ℕ, suc, List, [], ◌∷◌, ◌++◌, length, sym, subst}
use Rattle.jn_base.specs.declared.tree.Expr.{Expr}
use Rattle.jn_base.specs.declared.names.Var.{Var}
use Rattle.jn_base.specs.Scopes.{Scope}
use Rattle.jn_rules.specs.Plans.{Mark, Plan, IsBelow, ask, wants}
use Rattle.jn_rules.specs.Questions.{Notes}
use Rattle.jn_rules.specs.Exprs.{Typed, Passed, mismatch, put_in, type_passed, arg_passed, args_typed, expr_types}
use Rattle.jn_rules.specs.Forms.{typed_args}
use Rattle.jn_rules.proofs.PlanLaws.{then_noted}
use Rattle.jn_places.specs.ExprPlaces.{ArgsAt}
use Rattle.jn_lower.specs.declared.walk.Parts.{Parts}
use Rattle.jn_lower.specs.declared.walk.Walk.{Walk}
use Rattle.jn_lower.specs.Cursors.{Ahead}
use Rattle.jn_lower.specs.Called as called
use Rattle.jn_lower.specs.Walks.{ReadyIn, ArgsDone, LowersValue, LowersArgs}
use Rattle.jn_lower.proofs.Growing.{means}
use Rattle.jn_lower.proofs.Calling.{no_args_so, one_arg_so}
use Rattle.jn_lower.proofs.Noting.{wants_noted}
use Rattle.jn_lower.proofs.Taking.{ready_in, ready_typed}
use Rattle.jn_lower.proofs.Seen.{named_low}
use Rattle.jn_lower.proofs.Chains.{is_it, regroup}

no_length : (n : ℕ) → suc n ≡ 0 → ⊥
no_length n e = cc

length_suc : (m n : ℕ) → suc m ≡ suc n → m ≡ n
length_suc m n e = cc

pub no_args_done : (g : Parts) (w : Walk) → LowersArgs g [] w w
no_args_done g w n scratch h parts = record {
  done = λ from xs to sc y ms rest long ready noted ahead. at from xs to sc y ms rest long noted ahead;
}
  where
    at : (from : List ℕ) (xs : List Var) (to : List ℕ) (sc : Scope) (y : Passed) (ms rest : List Mark) → length xs ≡ 0
        → Notes g.p.now (args_typed h from xs [] to sc) ms y → Ahead (ms ++ rest) w.marks
        → ArgsDone (called.Args g.p.now n scratch h from xs [] to sc) rest w w
    at from [] to sc y ms rest long noted ahead = record {
      left = subst (λ (l : List Mark). Ahead (l ++ rest) w.marks) noted.0 ahead;
      emitted = no_args_so g.p.now n scratch h from to sc w.out;
    }
    at from (x ∷ xs) to sc y ms rest long noted ahead = absurd (no_length (length xs) long)

pub one_arg_done : (g : Parts) (e : Expr) (es : List Expr) (w0 w1 w2 : Walk) → LowersValue g e w0 w1
    → LowersArgs g es w1 w2 → LowersArgs g (e ∷ es) w0 w2
one_arg_done g e es w0 w1 w2 first others n scratch h parts = record {
  done = λ from xs to sc y ms rest long ready noted ahead. at from xs to sc y ms rest long ready noted ahead;
}
  where
    at : (from : List ℕ) (xs : List Var) (to : List ℕ) (sc : Scope) (y : Passed) (ms rest : List Mark)
        → length xs ≡ suc (length es) → ReadyIn g scratch h sc w0
        → Notes g.p.now (args_typed h from xs (typed_args h (e ∷ es)) to sc) ms y → Ahead (ms ++ rest) w0.marks
        → ArgsDone (called.Args g.p.now n scratch h from xs (e ∷ es) to sc) rest w0 w2
    at from [] to sc y ms rest long ready noted ahead = absurd (no_length (length es) (sym long))
    at from (x ∷ xs) to sc y ms rest long ready noted ahead =
        let f = then_noted (expr_types h e sc) (λ t. ask (IsBelow t.scope t.ty (put_in t.scope from to x.ty)) (λ ok. wants ok (mismatch h e.at) (more t)))
        ms y noted in
        let u = wants_noted f.then.0 (mismatch h e.at) (more f.first) f.after y f.then.2 in
        let d = (first n scratch h sc parts).done f.before (f.after ++ rest) f.first ready f.noted
        (subst (λ (l : List Mark). Ahead l w0.marks) (regroup ms f.before f.after rest f.all) ahead) in
        let k = (others n scratch h parts).done from xs (to ++ (arg_passed from to x f.first).path ∷ []) (arg_passed from to x f.first).scope
        y f.after rest (length_suc (length xs) (length es) long) (ready_in scratch h f.first.scope (arg_passed from to x f.first).scope w1
        (named_low (type_passed f.first.ty (put_in f.first.scope from to x.ty)) f.first.path f.first.scope)
        (ready_typed g.p.now scratch h sc e f.before f.first w0 w1 f.noted d.emitted.grown ready)) u.then d.left in
        record {
          left = k.left;
          emitted = one_arg_so g.p.now n scratch h from x xs e es to sc w0.out w1.out w2.out d.emitted
              (means (called.Args g.p.now n scratch h from xs es (to ++ (arg_passed from to x f.first).path ∷ []) (arg_passed from to x f.first).scope)
              (called.ArgsBehind g.p.now n scratch h from x xs e es to sc) w1.out w2.out
              (λ c s t r v gives. subst (λ (z : Typed). ArgsAt g.p.now n scratch c h from xs es (to ++ (arg_passed from to x z).path ∷ []) (arg_passed from to x z).scope s t)
              (is_it g n parts (expr_types h e sc) f.before f.first v f.noted gives) r) k.emitted);
        }
      where
        more : Typed → Plan Passed
        more t = args_typed h from xs (typed_args h es) (to ++ (arg_passed from to x t).path ∷ []) (arg_passed from to x t).scope
