use Rattle.std.proofs.Common.{◌≡◌, ◌↔◌, ◌∙◌, ◌<◌, ap, sym, subst, List, All, Contains, ℕ, map, rules}
use Rattle.std.proofs.lemmas.Result.{IfOk-weaker}
use Rattle.jn_reach.proofs.Searches.{not_when}
use Rattle.jn_base.specs.declared.types.Anchor.TheVariants.{Up}
use Rattle.jn_base.specs.declared.types.Ty.{Ty}
use Rattle.jn_base.specs.Universe.{InUniverse}
use Rattle.jn_base.specs.Atoms.{Atom, Among, atom_of, atoms_in, atom_at}
use Rattle.jn_base.specs.Scopes.{bound, bound_of}
use Rattle.jn_base.specs.Fits.{Anchored}
use Rattle.jn_intern.specs.declared.scope.Bind.{Bind}
use Rattle.jn_intern.specs.Pools.{scope_in}
use Rattle.jn_sem.specs.RootClosure.{Opens}
use Rattle.jn_sem.specs.Search.{rank}
use Rattle.jn_sem.proofs.Codes.{among_of}
use Rattle.jn_sem.proofs.NormalTypes.{among_map}
use Rattle.jn_subtype.specs.Binds.{binds_in}
use Rattle.jn_subtype.proofs.EnterForms.{among_scope, no_bind, replaced_older, older_small}
use Rattle.jn_expr.specs.Closed.{OpensBy}
use Rattle.jn_expr.proofs.Closing.{OpensOne, unknown_opens, root_opens, unbound_opens, bound_opens, more_so_far, all_so_far, opened_by}
use Rattle.jn_expr.proofs.closure.+opening.Goals as goal

pub open-returns-then-not-is_known : goal.open-returns-then-not-is_known
open-returns-then-not-is_known t c = λ p f.
    let pool : List Ty = c.args.pool.now in
    let s = scope_in pool c.args.scope.now in
    let b : c.in_ok-bound.bound ≡ bound s (atom_of c.args.x.now) =
    c.in_ok-bound.ensures in
    unknown_opens p s (atom_of c.args.x.now) c.new.result c.new.ensures
    (λ u. not_when c.if-not-is_known.true (c.is_known.ensures p f) (subst (InUniverse p) (sym b) u))

pub open-returns-in-Root : goal.open-returns-in-Root
open-returns-in-Root t c =
    let pool : List Ty = c.args.pool.now in
    let s = scope_in pool c.args.scope.now in
    let b : c.in_ok-bound.bound ≡ bound s (atom_of c.args.x.now) =
    c.in_ok-bound.ensures in
    IfOk-weaker c.only.result _ _
    (λ ts h p f. root_opens p s (atom_of c.args.x.now) ts h c.in-Root.is (subst (InUniverse p) b ((c.is_known.ensures p f).0 c.if-not-is_known.false)))
    c.only.ensures

pub open-returns-in-None : goal.open-returns-in-None
open-returns-in-None t c = λ p f.
    let pool : List Ty = c.args.pool.now in
    let binds : List Bind = c.args.scope.now.binds.items in
    let none : All (λ (b : Bind). b.path ≡ c.in-Up.path → ⊥) binds =
    subst (All (λ (b : Bind). b.path ≡ c.in-Up.path → ⊥)) c.as_slice.ensures.value c.in-None.ensures.none in
    unbound_opens p (scope_in pool c.args.scope.now) (atom_of c.args.x.now) c.new-in-None.result c.in-Up.path c.in-Up.k c.new-in-None.ensures c.in-Up.is
    (λ d m e. no_bind pool binds c.in-Up.path none d m e)

pub open-open_type-requires : goal.open-open_type-requires
open-open_type-requires t c =
    let pool : List Ty = c.args.pool.now in
    let scope = c.args.scope.now in
    let s = scope_in pool scope in
    let b : Bind = c.in-Some.b in
    let known : Contains scope.binds.items b = subst (λ (l : List Bind). Contains l b) c.as_slice.ensures.value c.in-Some.ensures.some.0 in
    let m = among_scope pool scope.binds.items b known in
    let e : c.args.x.now.anchor ≡ Up b.path c.in-Up.k = c.in-Up.is ∙ ap (λ (q : ℕ). Up q c.in-Up.k) (sym c.in-Some.ensures.some.1) in
    let g : Anchored s (Up b.path c.in-Up.k) = subst (Anchored s) e c.requires.anchored in (
      search rules,
      (
        c.requires.known,
        (
          c.requires.fits,
          λ z a.
              replaced_older c.requires.fits m (atom_of c.args.x.now) c.in-Up.k e g.1 z (subst (λ (y : Ty). Among (atoms_in y) z) c.show.ensures a),
        ),
      ),
    )

pub open-returns : goal.open-returns
open-returns t c =
    let pool : List Ty = c.args.pool.now in
    let scope = c.args.scope.now in
    let s = scope_in pool scope in
    let b : Bind = c.in-Some.b in
    let known : Contains scope.binds.items b = subst (λ (l : List Bind). Contains l b) c.as_slice.ensures.value c.in-Some.ensures.some.0 in
    let m = among_scope pool scope.binds.items b known in
    let e : c.args.x.now.anchor ≡ Up b.path c.in-Up.k = c.in-Up.is ∙ ap (λ (q : ℕ). Up q c.in-Up.k) (sym c.in-Some.ensures.some.1) in
    let h : c.in_ok-bound.bound ≡ bound s (atom_of c.args.x.now) =
    c.in_ok-bound.ensures in
    IfOk-weaker c.open_type.result _ _
    (λ ts k p f. bound_opens p s (atom_of c.args.x.now) _ c.in-Up.k c.requires.fits m e (subst (InUniverse p) h ((c.is_known.ensures p f).0 c.if-not-is_known.false)) (map atom_of ts)
    (λ z. subst (λ (y : Ty). Contains (map atom_of ts) z ↔ OpensBy p s (atoms_in y) c.in-Up.k (atom_of c.args.x.now) z) c.show.ensures (k p f z)))
    c.open_type.ensures

pub open_atoms-replace-requires : goal.open_atoms-replace-requires
open_atoms-replace-requires t c =
    let zs = c.args.zs.now in
    let z = c.z-item.result in
    older_small c.requires.fits (c.requires.older (atom_of z) (among_map atom_of zs z (among_of zs z (c.loop-z.z-index, c.loop-z-test.true, sym c.z-item.is))))

pub open_atoms-open-requires : goal.open_atoms-open-requires
open_atoms-open-requires t c =
    let zs = c.args.zs.now in
    let z = c.z-item.result in
    let s = scope_in c.args.pool.now c.args.scope.now in
    let older = c.requires.older (atom_of z) (among_map atom_of zs z (among_of zs z (c.loop-z.z-index, c.loop-z-test.true, sym c.z-item.is))) in
    let anchor = ap (λ (y : Atom). y.anchor) c.in_ok-y.ensures in
    let l : rank s c.in_ok-y.y.anchor < rank s c.args.x.now.anchor = subst (λ a. rank s a < rank s c.args.x.now.anchor) (sym anchor) older.less in
    (search (rules, l), (c.requires.known, (c.requires.fits, subst (Anchored s) (sym anchor) older.anchored)))

pub open_atoms-loop-z-preserved : goal.open_atoms-loop-z-preserved
open_atoms-loop-z-preserved t c = λ p f.
    let s = scope_in c.args.pool.now c.args.scope.now in
    more_so_far (OpensOne p s c.args.k (atom_of c.args.x.now)) c.args.zs.now c.loop-z.z-index c.z-item.result c.loop-z.all c.in_ok-more.more c.append.new.self
    c.loop-z-test.true c.z-item.is (c.loop-z.invariant p f) c.in_ok-append.ensures
    (λ z. subst (λ (y : Atom). Contains (map atom_of c.in_ok-more.more) z ↔ Opens p s y z) c.in_ok-y.ensures (c.in_ok-more.ensures p f z))

pub open_atoms-returns : goal.open_atoms-returns
open_atoms-returns t c = λ p f.
    let s = scope_in c.args.pool.now c.args.scope.now in
    opened_by p s c.args.k (atom_of c.args.x.now) c.args.zs.now _
    (all_so_far (OpensOne p s c.args.k (atom_of c.args.x.now)) c.args.zs.now c.loop-z.z-index c.loop-z.all c.loop-z-test.false (c.loop-z.invariant p f))

pub open_type-returns-in-Class : goal.open_type-returns-in-Class
open_type-returns-in-Class t c =
    let s = scope_in c.args.pool.now c.args.scope.now in
    let same : map atom_of c.as_slice.result.now ≡ atoms_in c.args.ty.now = ap (map atom_of) c.as_slice.ensures ∙ sym (ap atoms_in c.in-Class.is) in
    IfOk-weaker c.open_atoms.result _ _
    (λ ts h p f z. subst (λ (zs : List Atom). Contains (map atom_of ts) z ↔ OpensBy p s zs c.args.k (atom_of c.args.x.now) z) same (h p f z))
    c.open_atoms.ensures
