-- What a pool shows while it grows.
use Rattle.std.proofs.Common.{◌≡◌, List, [], ◌∷◌, map, reverse, get_or, All, suc, refl, ap, ◌∙◌, arith}
use Rattle.std.specs.List.{AllByRecursion}
use Rattle.jn_base.specs.declared.types.Ty.{Ty}
use Rattle.jn_base.specs.Scopes.{Bind as TypeBind}
use Rattle.jn_intern.specs.declared.scope.Bind.{Bind}
use Rattle.jn_intern.specs.declared.scope.Scope.{Scope}
use Rattle.jn_intern.specs.Pools.{InPool, Keeps, ScopeInPool, bind_in, scope_in}

pub keeps_same : (pool : List Ty) → Keeps pool pool
keeps_same pool = record {
  has = λ id h. h;
  shows = λ id h. refl;
}

pub keeps_more : {a b c : List Ty} → Keeps a b → Keeps b c → Keeps a c
keeps_more f g = record {
  has = λ id h. g.has id (f.has id h);
  shows = λ id h. g.shows id (f.has id h) ∙ f.shows id h;
}

pub scope_in_kept : {old new : List Ty} (scope : Scope) → ScopeInPool old scope → Keeps old new → ScopeInPool new scope
scope_in_kept scope k g n d l = g.has (get_or scope.binds.items n d).ty (k n d l)

binds_kept : {old new : List Ty} → Keeps old new → (bs : List Bind) → AllByRecursion (λ (b : Bind). InPool old b.ty) bs → map (bind_in new) bs ≡ map (bind_in old) bs
binds_kept g [] k = refl
binds_kept {old} {new} g (b ∷ bs) k =
    let bound_to : Ty → TypeBind = λ t. record { path = b.path; ty = t } in
    ap (λ (t : Ty). bound_to t ∷ map (bind_in new) bs) (g.shows b.ty k.0) ∙ ap (λ (cs : List TypeBind). bind_in old b ∷ cs) (binds_kept g bs k.1)

all_down : {X : Type 0} (P : X → Type 0) (xs : List X) → All P xs → AllByRecursion P xs
all_down P [] h = tt
all_down P (x ∷ xs) h = (h 0 x (omega arith), all_down P xs (λ k d l. h (suc k) d (omega (arith, l))))

-- a scope is the same scope of types after the pool has grown
pub scope_kept : {old new : List Ty} (scope : Scope) → ScopeInPool old scope → Keeps old new → scope_in new scope ≡ scope_in old scope
scope_kept scope k g = ap reverse (binds_kept g scope.binds.items (all_down (λ (b : Bind). InPool _ b.ty) scope.binds.items k))
