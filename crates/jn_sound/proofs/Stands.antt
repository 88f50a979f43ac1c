-- Where a frame stands before an act, and how it goes on.
use Rattle.std.proofs.Common.{◌≡◌, ℕ, List, ◌∷◌, length, Option, Bool, refl, sym, ◌∙◌, subst, arith}
use Rattle.std.specs.Prelude.{take}
use Rattle.std.proofs.lemmas.List.{take-take}
use Rattle.jn_base.specs.declared.tree.Program.{Program}
use Rattle.jn_base.specs.declared.types.Ty.{Ty}
use Rattle.jn_base.specs.declared.names.Var.{Var}
use Rattle.jn_base.specs.Atoms.{Among}
use Rattle.jn_base.specs.Scopes.{Scope, Binds}
use Rattle.jn_base.specs.Fits.{TypeFits}
use Rattle.jn_base.specs.ResolveTypes.{mask_names}
use Rattle.jn_sem.specs.Sets.{Views}
use Rattle.jn_sem.specs.Values.{Value}
use Rattle.jn_sem.specs.Below.{Below}
use Rattle.jn_sem.specs.Acts.{Todo}
use Rattle.jn_sem.specs.State.{Heap, Variable, Frame, frame_views, IsIn, HasValue}
use Rattle.jn_sem.proofs.HeapLaws.{heap_laws}
use Rattle.jn_sem.proofs.TypeSets.{values_below}
use Rattle.jn_rules.specs.Exprs.{bind}
use Rattle.jn_rules.specs.Stmts.{body_in}
use Rattle.jn_sound.specs.Takes.{Opd, opd}
use Rattle.jn_sound.specs.Fit.{Fits}
use Rattle.jn_sound.specs.Sound.{HeapFits, InScope, OperandFits, OperandsFit, one, cut, all_views, body_of, Works, Stays, GoesFit}
use Rattle.jn_sound.specs.Sound.{Stands}
use Rattle.jn_laws.specs.LawsOfViews.{AgreeOn}
use Rattle.jn_laws.proofs.ByViews.{value_same, fits_agree}
use Rattle.jn_rules.specs.Headers.{Header}

-- the frame as it acts
abbrev pub now : ℕ → List Todo → Frame → Frame
now n k f = record f { vars = take n f.vars; todo = k }

-- ---- nothing but the operands changes

pub same_scope : {p : Program} {h : Heap} {w : Views} {vs : List Var} {s : Scope} (f : Frame) (vals : List Value)
    (k : List Todo) (keeps : Bool)
    → InScope p h f w vs s → InScope p h (record f { vals = vals; todo = k; keeps = keeps }) w vs s
same_scope f vals k keeps n = record {
  declared = n.declared;
  binds = n.binds;
  respects = n.respects;
  values = n.values;
  bound = n.bound;
  real = n.real;
  seen = n.seen;
  small = n.small;
  no_null = n.no_null;
  own = n.own;
  this =
      record {
        object = n.this.object;
        view = n.this.view;
        is = n.this.is;
        real = n.this.real;
        super = n.this.super;
        filled = n.this.filled;
        constraints = n.this.constraints;
      };
}

twice : (n : ℕ) (f : Frame) → take n (take n f.vars) ≡ take n f.vars
twice n f = take-take n n f.vars (omega arith)

-- its variables, once cut, stay as they are
pub scope_on : {p : Program} {h : Heap} (f : Frame) {vs : List Var} {s : Scope} {w : Views}
    → InScope p h (cut (length vs) f) w vs s
    → (k : List Todo) (keeps : Bool) (vals : List Value) → InScope p h
    (cut (length vs) (record (now (length vs) k f) { vals = vals; keeps = keeps })) w vs s
scope_on {p} {h} f {vs} {s} {w} n k keeps vals =
    subst (λ (V : List Variable). InScope p h (record f { vars = V; vals = vals; todo = k; keeps = keeps }) w vs s)
    (sym (twice (length vs) f))
    (same_scope (cut (length vs) f) vals k keeps n)

pub views_on : (T : Views → Type 0) (f : Frame) (n : ℕ) (w : Views) (k : List Todo) (keeps : Bool) (vals : List Value)
    → T (all_views (cut n f) w)
    → T (all_views (cut n (record (now n k f) { vals = vals; keeps = keeps })) w)
views_on T f n w k keeps vals t =
    subst (λ (V : List Variable). T (all_views (record f { vars = V }) w)) (sym (twice n f)) t

-- of its variables and their views
pub vars_on : (T : List Variable → Views → Type 0) (f : Frame) (n : ℕ) (w : Views) (k : List Todo) (keeps : Bool)
    (vals : List Value) → T (take n f.vars) (all_views (cut n f) w)
    → T (take n (take n f.vars)) (all_views (cut n (record (now n k f) { vals = vals; keeps = keeps })) w)
vars_on T f n w k keeps vals t =
    subst (λ (V : List Variable). T V (all_views (record f { vars = V }) w)) (sym (twice n f)) t

pub works_on : {p : Program} {h : Heap} {f : Frame} {x : Header} {vs : List Var} {s : Scope} {ops : List Opd}
    {w : Views} → Stands p h f x vs s ops w
    → (k : List Todo) (keeps : Bool) (more : List Opd) (vals : List Value) → OperandsFit p (take (length vs) f.vars) h s
    (all_views (cut (length vs) f) w) more vals
    → Fits p (body_in (body_of f) x) k vs s more → Works p h
    (record (now (length vs) k f) { vals = vals; keeps = keeps }) k
works_on {p} {h} {f} {x} {vs} {s} {ops} {w} a k keeps more vals g t = record {
  header = x;
  is_header = a.is_header;
  vars = vs;
  params = a.params;
  all_params = a.all_params;
  scope = s;
  ops = more;
  fresh = w;
  in_scope =
      subst (λ (V : _). InScope p h (record f { vars = V; vals = vals; todo = k; keeps = keeps }) w vs s)
      (sym (twice (length vs) f))
      (same_scope (cut (length vs) f) vals k keeps a.in_scope);
  operands =
      subst (λ (V : List Variable). OperandsFit p V h s (all_views (record f { vars = V }) w) more vals)
      (sym (twice (length vs) f)) g;
  fits = t;
}

pub stays_on : {p : Program} {h : Heap} {f : Frame} {x : Header} {vs : List Var} {s : Scope} {ops : List Opd}
    {w : Views} → Stands p h f x vs s ops w
    → (k : List Todo) (keeps : Bool) (vals : List Value) → Stays p f
    (record (now (length vs) k f) { vals = vals; keeps = keeps })
stays_on {p} {f = f} {vs = vs} a k keeps vals = record {
  class = refl;
  method = refl;
  result =
      λ y i v g n. subst (λ (V : _). IsIn p (frame_views (record f { vars = V })) i y.result v)
      (take-take (length f.method.params) (length vs) f.vars a.all_params) n;
}

pub goes_on : {p : Program} {h : Heap} {f : Frame} {x : Header} {vs : List Var} {s : Scope} {ops : List Opd}
    {w : Views} → HeapFits p h → Stands p h f x vs s ops w
    → (k : List Todo) (more : List Opd) (vals : List Value) → OperandsFit p (take (length vs) f.vars) h s
    (all_views (cut (length vs) f) w) more vals
    → Fits p (body_in (body_of f) x) k vs s more → GoesFit p h f (record (now (length vs) k f) { vals = vals }) h
goes_on {p} {h} {f} {x} {vs} e a k more vals g t = record {
  later = (heap_laws.heaps p).itself h;
  heap = e;
  stays = stays_on a k f.keeps vals;
  works = works_on a k f.keeps more vals g t;
}

-- ---- operands

pub operand_same : {p : Program} {xs ys : List Variable} {h : Heap} {s t : Scope} (v w : Views) (o : Opd) (x : Value)
    → AgreeOn s v w → ((u : Ty) → TypeFits s u → TypeFits t u) → ((q : ℕ) → Binds s q → Binds t q)
    → ((y : Variable) → Among ys y → Binds s y.var.path → Among xs y) → OperandFits p xs h s v o x
    → OperandFits p ys h t w o x
operand_same {p} {h = h} {s = s} v w o x a fit bind old g = record {
  fits = fit o.ty g.fits;
  bound = λ q i. bind q (g.bound q i);
  is_in = value_same p v w h o.ty x (fits_agree s v w o.ty a g.fits) g.is_in;
  real = g.real;
  path = λ q i. sym (a.each q (g.bound q i)) ∙ g.path q i;
  held = λ y m e. g.held y (old y m (g.bound y.var.path e)) e;
}

-- an operand in a type above its own
pub stands_wider : {p : Program} {h : Heap} {f : Frame} {x : Header} {vs : List Var} {s : Scope} {ops : List Opd}
    {w : Views} (t u : Ty) (q : Option ℕ) → Below p s t u → TypeFits s u
    → Stands p h f x vs s (opd t q ∷ ops) w → Stands p h f x vs s (opd u q ∷ ops) w
stands_wider {p} {h} {f} {x} {vs} {s} {ops} {w} t u q l fits a =
    record {
      is_header = a.is_header;
      params = a.params;
      all_params = a.all_params;
      in_scope = a.in_scope;
      operands =
          at f.vals a.operands;
    } where
      v : Views
      v = all_views (cut (length vs) f) w

      at : (vals : List Value) → OperandsFit p (take (length vs) f.vars) h s v (opd t q ∷ ops) vals
          → OperandsFit p (take (length vs) f.vars) h s v (opd u q ∷ ops) vals
      at _ (one {x = y} g r) =
          one (record {
            fits = fits;
            bound = g.bound;
            is_in = values_below a.in_scope.binds a.in_scope.respects
                (mask_names p) (HasValue p h) t u y l g.is_in;
            real = g.real;
            path = g.path;
            held = g.held;
          }) r
