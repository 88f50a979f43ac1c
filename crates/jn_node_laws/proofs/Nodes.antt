-- The instructions of a node do what its act does.
use Rattle.std.proofs.Common.{◌≡◌, ℕ, zero, suc, ◌+◌, ◌≤◌, List, [], ◌∷◌, length, map, take, Option, Some, None, Bool, refl, sym, ap, ◌∙◌, subst, arith}
use Rattle.std.specs.Prelude.{ℤ, slice_get}
use Rattle.jn_steps.specs.Steps.{Goes, Enters, Leaves, Falls, Faults, on_some}
use Rattle.jn_base.specs.declared.tree.Program.{Program}
use Rattle.jn_base.specs.declared.names.Var.{Var}
use Rattle.jn_code.specs.declared.instr.Instr.{Instr}
use Rattle.jn_code.specs.declared.image.Image.{Image}
use Rattle.jn_code.specs.declared.image.Code.{Code}
use Rattle.jn_code.specs.Machine.{Halt, move, obey, word_of}
use Rattle.jn_code.specs.Machine as machine
use Rattle.jn_code.proofs.Words.{get_left}
use Rattle.jn_sem.specs.Values.{Value, Number, Truth, Null, Reference}
use Rattle.jn_sem.specs.Terms.{Site}
use Rattle.jn_sem.specs.Acts.{Act, Todo, todo}
use Rattle.jn_sem.specs.State.{Frame, Variable, declared_vars}
use Rattle.jn_sem.specs.Does.{Ending, Stuck, Did}
use Rattle.jn_sem.specs.Run.{acting}
use Rattle.jn_sem.specs.State.{Heap}
use Rattle.jn_agree.specs.Naming.{Naming, First, IsWord, WordsAre}
use Rattle.jn_agree.specs.Matches.{World, Matches, Onward}
use Rattle.jn_agree.specs.Follows.{Knows, halt_of, when_quiet, quiet, Comes, rate, blank, Follows, LocalAt, Local}
use Rattle.jn_node_laws.specs.Cont.{of_frame, of_this, Layout, LaidOut, AreLaid, trimmed, PlacedOn, active, ContOn, Led, LeadsTo, Then, Shows}
use Rattle.jn_agree.specs.Places.{At}
use Rattle.jn_link_laws.proofs.Link.{onward_itself}

pub none_some : {X : Type 0} {q : X} → None ≡ Some q → ⊥
none_some e = cc

-- ---- in a later world

pub word_on : (p : Program) (n : Naming) (x y : World) (v : Value) (z : ℤ) → Onward x y → IsWord p n x.firsts v z →
    IsWord p n y.firsts v z
word_on p n x y (Number w) z on e = record { is = e.is }
word_on p n x y (Truth b) z on e = record { is = e.is }
word_on p n x y Null z on e = record { is = e.is }
word_on p n x y (Reference o V) z on e =
    let i = e.is in
    record {
      is = (
        i.0,
        i.1,
        i.2,
        ap (λ (f : List First). slice_get f o) on.firsts ∙
            get_left x.firsts on.more o i.1 i.3,
        i.4,
        i.5,
      );
    }

pub words_on : (p : Program) (n : Naming) (x y : World) (vs : List Value) (zs : List ℤ) → Onward x y →
    WordsAre p n x.firsts vs zs → WordsAre p n y.firsts vs zs
words_on p n x y [] [] on e = tt
words_on p n x y [] (z ∷ zs) on e = e
words_on p n x y (v ∷ vs) [] on e = e
words_on p n x y (v ∷ vs) (z ∷ zs) on e = (word_on p n x y v z on e.0, words_on p n x y vs zs on e.1)

pub laid_on : (p : Program) (n : Naming) (this : Value) (l : Layout) (x y : World) (vs : List Value) (zs : List ℤ) →
    Onward x y → LaidOut p n x.firsts this l vs zs → LaidOut p n y.firsts this l vs zs
laid_on p n this [] x y vs zs on e = words_on p n x y vs zs on e
laid_on p n this (of_frame ∷ l) x y [] zs on e = e
laid_on p n this (of_frame ∷ l) x y (v ∷ vs) [] on e = e
laid_on p n this (of_frame ∷ l) x y (v ∷ vs) (z ∷ zs) on e =
    (word_on p n x y v z on e.0, laid_on p n this l x y vs zs on e.1)
laid_on p n this (of_this ∷ l) x y vs [] on e = e
laid_on p n this (of_this ∷ l) x y vs (z ∷ zs) on e =
    (word_on p n x y this z on e.0, laid_on p n this l x y vs zs on e.1)

pub placed_on : (p : Program) (n : Naming) (it : Code) (r : Frame) (here : Site) (l : Layout) (f : Frame)
    (x y : World) (vars vals : List ℤ) →
    Onward x y → PlacedOn p n it r here l f x vars vals → PlacedOn p n it r here l f y vars vals
placed_on p n it r here l f x y vars vals on e = record {
  class = e.class;
  method = e.method;
  result = e.result;
  scope = e.scope;
  long = e.long;
  this = (e.this.0, e.this.1, word_on p n x y f.this e.this.0 on e.this.2);
  locals = λ v among. let l = e.locals v among in (l.0, l.1, word_on p n x y v.value l.0 on l.2);
  operands = record { are = laid_on p n f.this l x y f.vals vals on e.operands.are };
}

-- ---- a frame as it is seen by the next act

pub take_all : {A B : Type 0} (f : A → B) (xs : List A) (n : ℕ) → n ≡ length (map f xs) → take n xs ≡ xs
take_all f [] zero e = refl
take_all f [] (suc n) e = refl
take_all f (x ∷ xs) zero e = cc
take_all f (x ∷ xs) (suc n) e = ap (λ (ys : List _). x ∷ ys) (take_all f xs n (omega (arith, e)))

pub retrimmed : (p : Program) (n : Naming) (it : Code) (r : Frame) (here : Site) (l : Layout) (f : Frame) (x : World)
    (vars vals : List ℤ) →
    PlacedOn p n it r here l f x vars vals → PlacedOn p n it r here l (trimmed here f) x vars vals
retrimmed p n it r here l f x vars vals e =
    let whole : take (length here.vars) f.vars ≡ f.vars = take_all (λ (v : Variable). v.var) f.vars (length here.vars)
    (ap (λ (vs : List Var). length vs) (sym e.scope)) in
    subst (λ (vs : List Variable). PlacedOn p n it r here l (record f { vars = vs }) x vars vals) (sym whole) e

-- other operands
pub with_operands : (p : Program) (n : Naming) (it : Code) (r : Frame) (here : Site) (j l : Layout) (f : Frame)
    (vs : List Value) (k : List Todo) (x : World) (vars vals zs : List ℤ) → PlacedOn p n it r here j f x vars vals →
    AreLaid p n x.firsts f.this l vs zs → PlacedOn p n it r here l (record f { vals = vs; todo = k }) x vars zs
with_operands p n it r here j l f vs k x vars vals zs e ws = record {
  class = e.class;
  method = e.method;
  result = e.result;
  scope = e.scope;
  long = e.long;
  this = e.this;
  locals = e.locals;
  operands = ws;
}

module _ (p : Program) (i : Image) (n : Naming) (m : ℕ) (K : Knows) (T : Type 0) (Stands : T → Frame → Heap → Type 0)
    (code : ℕ) (it : Code) (there : slice_get i.codes code ≡ Some it) (r : Frame) where
  abbrev pub c : List Instr
  c = it.instrs

  abbrev pub GoOn : Layout → ℕ → Site → T → List Todo → ℕ → ℕ → Type 0
  GoOn l = ContOn p i n m K T Stands code it r l

  abbrev pub Go : ℕ → Site → T → List Todo → ℕ → ℕ → Type 0
  Go = ContOn p i n m K T Stands code it r []

  abbrev pub Next : Site → T → ℕ → Frame → World → machine.Frame → List ℤ → ℕ → Type 0
  Next = Then p i n m K T Stands code it r

  abbrev pub frame : ℕ → List ℤ → List ℤ → Bool → machine.Frame
  frame s vars vals keeps = active code s vars vals keeps

  pub moved : (s : ℕ) (x : Instr) (vars vals a : List ℤ) (keeps : Bool) → At c s x → move i m
      (frame s vars vals keeps) a ≡ obey i m x (frame s vars vals keeps) a
  moved s x vars vals a keeps e =
      ap (λ (o : Option Code). on_some machine.Stuck o
      (λ (c : Code). on_some machine.Stuck (slice_get c.instrs s) (λ x. obey i m x (frame s vars vals keeps) a)))
      there
      ∙ ap (λ (o : Option Instr). on_some machine.Stuck o (λ x. obey i m x (frame s vars vals keeps) a)) e

  -- what is behind an act goes on
  pub goes_on : (l : Layout) (b : ℕ) (here : Site) (t : T) (k : List Todo) (s w : ℕ) → GoOn l b here t k s w
      → (f : Frame) (x : World) (a vars vals : List ℤ) (keeps : Bool) → f.todo ≡ k
      → PlacedOn p n it r here l f x vars vals → Matches p i n x a →
      Next here t b f x (frame s vars vals keeps) a w
  goes_on l b here t k s w h f x a vars vals keeps e placed ma st = h.by f x a vars vals keeps e
      (retrimmed p n it r here l f x vars vals placed) ma st

  -- ---- one node

  -- What typing adds: where the instructions do what the act does, and the act leads to the typing, all is shown.
  pub typed : (b : ℕ) (here : Site) (t : T) (x : World) (g : machine.Frame) (a : List ℤ) (w : ℕ) (d : Did)
      → Led p i n m K T Stands code it r t d → Follows p i n m blank (Next here t b) r d x g a w → Follows p i n m K
      (Local p i n m K r b) r d x g a w
  typed b here t x g a w (Goes f2 h bytes) led l = record {
    firsts = l.firsts;
    next = l.next;
    arena = l.arena;
    cost = l.cost;
    left = l.left;
    comes = l.comes;
    within = l.within;
    onward = l.onward;
    matches = l.matches;
    result = l.result;
    goes_on = l.goes_on led;
  }
  typed b here t x g a w (Enters e args f2 h) led l = record {
    firsts = l.firsts;
    next = l.next;
    arena = l.arena;
    code = l.code;
    words = l.words;
    cost = l.cost;
    left = l.left;
    comes = l.comes;
    within = l.within;
    onward = l.onward;
    matches = l.matches;
    are = l.are;
    entry = l.entry;
    may = led.0;
    result = l.result;
    waits = λ y na v z on ma hb gb. l.waits y na v z on ma hb tt (led.1 y.heap v on.heap gb);
  }
  typed b here t x g a w (Leaves v h) led l = record {
    firsts = l.firsts;
    arena = l.arena;
    word = l.word;
    comes = l.comes;
    onward = l.onward;
    matches = l.matches;
    hands = l.hands;
    gives = led;
  }
  typed b here t x g a w Falls led l = tt
  typed b here t x g a w (Faults o) led l = l

  -- of a fact of the frame that is left to act
  pub node_of : (l : Layout) (b : ℕ) (here : Site) (u t : T) (act : Act) (k : List Todo) (s w : ℕ) →
      LeadsTo p i n m K T Stands code it r here act k u t
      → (Fact : Frame → Heap → Type 0)
      → ((f : Frame) (h : Heap) → Stands u f h → Fact (acting (todo (length here.vars) act) k f) h)
      → Shows p i n m K T Stands code it r l Fact b here t act k s w → GoOn l (suc b) here u
      (todo (length here.vars) act ∷ k) s w
  node_of l b here u t act k s w leads Fact facts shows = record {
    by = λ f x a vars vals keeps e placed ma st.
        subst (λ (todo : List Todo). LocalAt p i n m K r (suc b) todo f x (frame s vars vals keeps) a w) (sym e)
        (λ d does. typed b here t x (frame s vars vals keeps) a w d (leads f x.heap d st does)
        (shows (acting (todo (length here.vars) act) k f) x a vars vals keeps refl
        (with_operands p n it r here l l (trimmed here f) f.vals k x vars vals vals placed placed.operands) ma
        (facts f x.heap st) d does));
  }

  -- of a fact of its operands
  pub node : (l : Layout) (b : ℕ) (here : Site) (u t : T) (act : Act) (k : List Todo) (s w : ℕ) →
      LeadsTo p i n m K T Stands code it r here act k u t
      → (Fact : Heap → List Value → Type 0) → ((f : Frame) (h : Heap) → Stands u f h → Fact h f.vals)
      → Shows p i n m K T Stands code it r l (λ f h. Fact h f.vals) b here t act k s w → GoOn l (suc b) here u
      (todo (length here.vars) act ∷ k) s w
  node l b here u t act k s w leads Fact facts shows =
      node_of l b here u t act k s w leads (λ f h. Fact h f.vals) facts shows

  -- where nothing acts
  pub moves : (l : Layout) (b : ℕ) (here : Site) (u t : T) (k : List Todo) (s w : ℕ) →
      ((f : Frame) (h : Heap) → Stands u f h → Stands t f h)
      → GoOn l b here t k s w → GoOn l b here u k s w
  moves l b here u t k s w mv h = record {
    by = λ f x a vars vals keeps e placed ma st.
        h.by f x a vars vals keeps e placed ma (mv f x.heap st);
  }

  -- Where all operands are the frame's, so is the latest one.
  pub narrow : (b : ℕ) (here : Site) (t : T) (k : List Todo) (s w : ℕ) → Go b here t k s w →
      GoOn (of_frame ∷ []) b here t k s w
  narrow b here t k s w h = record {
    by = λ f x a vars vals keeps e placed ma st.
        h.by f x a vars vals keeps e
        (with_operands p n it r here (of_frame ∷ []) [] (trimmed here f) f.vals f.todo x vars vals vals placed
        (record { are = flat x f.this f.vals vals placed.operands.are })) ma st;
  }
    where
      flat : (x : World) (this : Value) (vs : List Value) (zs : List ℤ) →
          LaidOut p n x.firsts this (of_frame ∷ []) vs zs
          → LaidOut p n x.firsts this [] vs zs
      flat x this [] zs e = absurd e
      flat x this (v ∷ vs) [] e = absurd e
      flat x this (v ∷ vs) (z ∷ zs) e = e

  pub stuck : (b : ℕ) (here : Site) (t : T) (why : _) (x : World) (g : machine.Frame) (a : List ℤ) (w : ℕ) (d : Did) →
      d ≡ Faults (Stuck why) → Follows p i n m blank (Next here t b) r d x g a w
  stuck b here t why x g a w d e = subst (λ (d : Did). Follows p i n m blank (Next here t b) r d x g a w) (sym e)
      (λ q is. absurd (none_some is))

  pub faults : (b : ℕ) (here : Site) (t : T) (o : Ending) (q : Halt) (x : World) (g : machine.Frame) (a : List ℤ)
      (w : ℕ) (d : Did) → d ≡ Faults o → halt_of o ≡ Some q → Comes i m g a (Faults q) (rate + w) →
      Follows p i n m blank (Next here t b) r d x g a w
  faults b here t o q x g a w d e h comes =
      subst (λ (d : Did). Follows p i n m blank (Next here t b) r d x g a w) (sym e)
      (λ q2 is. subst (λ (q : Halt). Comes i m g a (Faults q) (rate + w)) (same q q2 (sym h ∙ is)) comes)
    where
      same : (q q2 : Halt) → Some q ≡ Some q2 → q ≡ q2
      same q q2 e = cc

  pub comes : (g : machine.Frame) (a : List ℤ) (y : machine.Did) (w : ℕ) → move i m g a ≡ y → 1 ≤ w → Comes i m g a y w
  comes g a y w e le = record { j = 0; last = g; there = a; on = refl; does = e; cost = le }

  -- a quiet instruction first
  pub comes_later : (g next : machine.Frame) (a na : List ℤ) (what : machine.Did) (w : ℕ) →
      move i m g a ≡ Goes next na [] → Comes i m next na what w → Comes i m g a what (suc w)
  comes_later g next a na what w e k =
      record {
        j = suc k.j;
        last = k.last;
        there = k.there;
        on = ap (λ x. when_quiet x (quiet i m k.j)) e ∙ k.on;
        does = k.does;
        cost = omega (arith, k.cost);
      }

  -- the act goes on in the same heap, within so many instructions
  pub goes_in : (b : ℕ) (here : Site) (t : T) (x : World) (f : Frame) (bytes : List ℕ) (g next : machine.Frame)
      (a : List ℤ) (cost left w : ℕ) (d : Did) → d ≡ Goes f x.heap bytes → Comes i m g a (Goes next a bytes) cost →
      cost + left ≤ rate + w → f.method.result ≡ r.method.result → Matches p i n x a → Next here t b f x next a left →
      Follows p i n m blank (Next here t b) r d x g a w
  goes_in b here t x f bytes g next a cost left w d e k le res ma l =
      subst (λ (d : Did). Follows p i n m blank (Next here t b) r d x g a w) (sym e)
      (record {
        firsts = x.firsts;
        next = next;
        arena = a;
        cost = cost;
        left = left;
        comes = k;
        within = le;
        onward = onward_itself x;
        matches = ma;
        result = res;
        goes_on = l;
      })

  pub wide : (here : Site) (l : Layout) (f : Frame) (x : World) (vars vals : List ℤ) →
      PlacedOn p n it r here l f x vars vals → length f.vars ≡ length here.vars
  wide here l f x vars vals placed = long f.vars ∙ ap (λ (vs : List Var). length vs) placed.scope
    where
      long : (vs : List Variable) → length vs ≡ length (declared_vars vs)
      long [] = refl
      long (v ∷ vs) = ap suc (long vs)
