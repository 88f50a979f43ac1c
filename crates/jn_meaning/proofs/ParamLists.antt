-- Parameters one after the other.
use Rattle.std.proofs.Common.{◌≡◌, ◌<◌, ◌≤◌, ◌+◌, ℕ, zero, suc, List, [], ◌∷◌, ◌++◌, length, drop, get_or, refl, sym, ap, ◌∙◌, subst, arith, add-one}
use Rattle.jn_base.specs.declared.tree.Param.{Param}
use Rattle.jn_base.specs.declared.tree.Program.{Program}
use Rattle.jn_base.specs.declared.names.Var.{Var}
use Rattle.jn_base.specs.declared.names.Vars.{Vars}
use Rattle.jn_base.specs.declared.types.Ty.{Ty}
use Rattle.jn_sem.specs.Does.{Body, AreParams, AreParamsAfter, var}
use Rattle.jn_sem.specs.Terms.{TypeIs}
use Rattle.jn_sem.proofs.FindingLaws.{finds_one}
use Rattle.jn_meaning.specs.Sites.{site_with}
use Rattle.jn_meaning.specs.Params.{IsAdded}

next_of : {X : Type 0} (xs : List X) (i : ℕ) (x : X) → i < length xs → drop i xs ≡ get_or xs i x ∷ drop (suc i) xs
next_of [] i x l = absurd (omega (arith, l))
next_of (y ∷ xs) zero x l = refl
next_of {X} (y ∷ xs) (suc i) x l = next_of xs i x (omega (arith, l))

next_left : {X : Type 0} (xs : List X) (i : ℕ) (x : X) → i < length xs → drop i xs ≡ get_or xs i x ∷ drop (i + 1) xs
next_left {X} xs i x l = next_of xs i x l ∙ sym (ap (λ (k : ℕ). get_or xs i x ∷ drop k xs) (add-one i))

past_end : {X : Type 0} (xs : List X) (i : ℕ) → length xs ≤ i → drop i xs ≡ []
past_end [] zero l = refl
past_end [] (suc i) l = refl
past_end (y ∷ xs) zero l = absurd (omega (arith, l))
past_end (y ∷ xs) (suc i) l = past_end xs i (omega (arith, l))

-- Those before the place i are these variables, and those behind it are still to be found.
pub record ParamsTo (p : Program) (b : Body) (params : List Param) (vars : List Var) (i : ℕ) : Type 0 where
  pub to : (all : List Var) → AreParams p b all → AreParamsAfter p b vars (drop i params) all
  pub from : (all : List Var) → AreParamsAfter p b vars (drop i params) all → AreParams p b all

module _ (p : Program) (b : Body) (params : List Param) (are : params ≡ b.method.params) where
  pub params_first : (vars : List Var) → vars ≡ [] → ParamsTo p b params vars 0
  params_first vars e = record {
    to = λ all k. subst (λ (vs : List Var). AreParamsAfter p b vs params all) (sym e) (subst (λ (ps : List Param). AreParamsAfter p b [] ps all) (sym are) k);
    from = λ all k. subst (λ (ps : List Param). AreParamsAfter p b [] ps all) are (subst (λ (vs : List Var). AreParamsAfter p b vs params all) e k);
  }

  module _ (i : ℕ) (x : Param) (within : i < length params) (at : x ≡ get_or params i x) (vars : Vars) (so : ParamsTo p b params vars.list i) where
    left : drop i params ≡ x ∷ drop (i + 1) params
    left = next_left params i x within ∙ ap (λ (y : Param). y ∷ drop (i + 1) params) (sym at)

    pub params_more : (new : Vars) → IsAdded p b.class b.method.name.name vars new x → ParamsTo p b params new.list (i + 1)
    params_more new k = record {
      to = λ all h. behind all (subst (λ (ps : List Param). AreParamsAfter p b vars.list ps all) left (so.to all h));
      from = λ all h. so.from all (subst (λ (ps : List Param). AreParamsAfter p b vars.list ps all) (sym left)
          (k.ty, k.type, subst (λ (vs : List Var). AreParamsAfter p b vs (drop (i + 1) params) all) k.is h));
    }
      where
        behind : (all : List Var) → AreParamsAfter p b vars.list (x ∷ drop (i + 1) params) all → AreParamsAfter p b new.list (drop (i + 1) params) all
        behind all (t, is, more) =
            let one : t ≡ k.ty = (finds_one p).type (site_with b.class b.method.name.name vars) x.ty t k.ty is k.type in
            subst (λ (vs : List Var). AreParamsAfter p b vs (drop (i + 1) params) all) (sym k.is)
            (subst (λ (u : Ty). AreParamsAfter p b (vars.list ++ var x.name.name (suc (length vars.list)) x.fixed u ∷ []) (drop (i + 1) params) all) one more)

    pub params_none : ((t : Ty) → TypeIs p (site_with b.class b.method.name.name vars) x.ty t → ⊥) → (all : List Var) → AreParams p b all → ⊥
    params_none n all h = none (subst (λ (ps : List Param). AreParamsAfter p b vars.list ps all) left (so.to all h))
      where
        none : AreParamsAfter p b vars.list (x ∷ drop (i + 1) params) all → ⊥
        none (t, is, more) = n t is

  pub params_all : (i : ℕ) (vars : List Var) → length params ≤ i → ParamsTo p b params vars i → AreParams p b vars
  params_all i vars past so = so.from vars (subst (λ (ps : List Param). AreParamsAfter p b vars ps vars) (sym (past_end params i past)) refl)
