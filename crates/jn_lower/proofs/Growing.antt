-- What is emitted one behind another, with what is known of the locals.
use Rattle.std.proofs.Common.{◌≡◌, ℕ, ◌+◌, [], ◌∷◌, length, refl, sym, ◌∙◌, subst}
use Rattle.jn_code.specs.declared.instr.Instr.{Instr}
use Rattle.jn_code.specs.declared.instr.Instr.TheVariants as ins
use Rattle.jn_code.specs.declared.image.Code.{Code}
use Rattle.jn_agree.specs.Places.{HasKind}
use Rattle.jn_lower.specs.declared.emitter.Locals.{Locals}
use Rattle.jn_lower.specs.declared.emitter.Emitter.{Emitter}
use Rattle.jn_lower.specs.Placed.{Placed, Nothing, Are, Behind, Branches, Turns}
use Rattle.jn_lower.specs.Emitted.{Fits, Keeps, Grown, Emitted, Adds, Patched}
use Rattle.jn_lower.specs.Laws.{AddedStand, NothingStands}
use Rattle.jn_lower.proofs.Seams as seams
use Rattle.jn_lower.proofs.Jumps as jumps

-- ---- locals

pub keeps_self : (a : Locals) → Keeps a a
keeps_self a = record { kinds = λ q k e. e; spare = λ j k e. e; scratch = refl }

pub keeps_all : (a b : Locals) → b ≡ a → Keeps a b
keeps_all a b e = subst (λ x. Keeps a x) (sym e) (keeps_self a)

pub keeps_trans : (a b c : Locals) → Keeps a b → Keeps b c → Keeps a c
keeps_trans a b c f g = record {
  kinds = λ q k e. g.kinds q k (f.kinds q k e);
  spare = λ j k e. g.spare j k (f.spare j k e);
  scratch = g.scratch ∙ f.scratch;
}

-- what fits what is known later fits what was known before
pub earlier : (a b : Locals) (c : Code) → Keeps a b → Fits b c → Fits a c
earlier a b c f g = record {
  kinds = λ q k e. g.kinds q k (f.kinds q k e);
  spare = λ j k e. subst (λ s. HasKind c (s + j) k) f.scratch (g.spare j k (f.spare j k e));
}

-- ---- between lists of instructions and emitters

abbrev With : Locals → (Code → ℕ → ℕ → Type 0) → Code → ℕ → ℕ → Type 0
With x There c s t = Fits x c → There c s t

placed : (There : Code → ℕ → ℕ → Type 0) (old new : Emitter) → Emitted There old new
    → Placed (With new.locals There) old.instrs new.instrs
placed There old new e = record {
  longer = e.grown.longer;
  kept = e.grown.kept;
  there = λ c same fits. e.there c fits same;
}

pub emitted : (There : Code → ℕ → ℕ → Type 0) (old new : Emitter) → Keeps old.locals new.locals
    → Placed (With new.locals There) old.instrs new.instrs → Emitted There old new
emitted There old new keeps p = record {
  grown = record { longer = p.longer; kept = p.kept; locals = keeps };
  there = λ c fits same. p.there c same fits;
}

-- ---- one behind another

pub none : NothingStands
none old = emitted Nothing old old (keeps_self old.locals)
    (seams.means Nothing (With old.locals Nothing) old.instrs old.instrs (λ c s t h fits. h) (seams.none old.instrs))

-- with the same locals, what is placed is emitted
pub laid : (There : Code → ℕ → ℕ → Type 0) (old new : Emitter) → new.locals ≡ old.locals
    → Placed There old.instrs new.instrs → Emitted There old new
laid There old new e p =
    emitted There old new (keeps_all old.locals new.locals e)
    (seams.means There (With new.locals There) old.instrs new.instrs (λ c s t h fits. h) p)

pub added : AddedStand
added xs old new e = laid (Are xs) old new e.locals (seams.added xs old.instrs new.instrs e.instrs)

-- one stretch, and then another
pub behind : (A B : Code → ℕ → ℕ → Type 0) (old mid new : Emitter) → Emitted A old mid → Emitted B mid new
    → Emitted (Behind A B) old new
behind A B old mid new a b =
    emitted (Behind A B) old new (keeps_trans old.locals mid.locals new.locals a.grown.locals b.grown.locals)
    (seams.means (Behind (With mid.locals A) (With new.locals B)) (With new.locals (Behind A B)) old.instrs new.instrs
    (λ c s t h fits. (h.0, h.1 (earlier mid.locals new.locals c b.grown.locals fits), h.2 fits))
    (seams.behind (With mid.locals A) (With new.locals B) old.instrs mid.instrs new.instrs (placed A old mid a) (placed B mid new b)))

-- the same under another reading
pub means : (A B : Code → ℕ → ℕ → Type 0) (old new : Emitter) → ((c : Code) (s t : ℕ) → A c s t → B c s t)
    → Emitted A old new → Emitted B old new
means A B old new f a =
    record { grown = a.grown; there = λ c fits same. f c (length old.instrs) (length new.instrs) (a.there c fits same) }

-- the same under another reading, which the locals allow
pub means_where : (A B : Code → ℕ → ℕ → Type 0) (old new : Emitter)
    → ((c : Code) (s t : ℕ) → Fits new.locals c → A c s t → B c s t) → Emitted A old new → Emitted B old new
means_where A B old new f a = record {
  grown = a.grown;
  there = λ c fits same. f c (length old.instrs) (length new.instrs) fits (a.there c fits same);
}

-- for each of these, where it is emitted for each
pub for_each : (X : Type 0) (A : X → Code → ℕ → ℕ → Type 0) (old new : Emitter) → Grown old new
    → ((x : X) → Emitted (A x) old new) → Emitted (λ c s t. (x : X) → A x c s t) old new
for_each X A old new grown a = record { grown = grown; there = λ c fits same x. (a x).there c fits same }

-- what is emitted behind another stretch has grown from its beginning
pub grown_by : (a b c : Emitter) → Grown a b → Grown b c → Grown a c
grown_by a b c f g =
    (behind (λ c s t. Unit {0}) (λ c s t. Unit {0}) a b c (record { grown = f; there = λ c fits same. tt })
    (record { grown = g; there = λ c fits same. tt })).grown

pub grown_self : (a : Emitter) → Grown a a
grown_self a = (none a).grown

-- ---- jumps

-- Two jumps, patched once what they pass is emitted: x and y are what stood in their places.
pub branches : (jump : ℕ → Instr) (One Other : Code → ℕ → ℕ → Type 0) (x y : Instr) (c0 c1 c2 c3 c4 c5 new : Emitter)
    → Adds (x ∷ []) c0 c1 → Emitted One c1 c2 → Adds (y ∷ []) c2 c3 → Emitted Other c3 c4
    → Patched (length c0.instrs) (jump (length c3.instrs)) c4 c5
    → Patched (length c2.instrs) (ins.Jump (length c4.instrs)) c5 new → Emitted (Branches jump One Other) c0 new
branches jump One Other x y c0 c1 c2 c3 c4 c5 new e1 one e3 other e5 e6 =
    emitted (Branches jump One Other) c0 new
    (keeps_trans c0.locals c2.locals new.locals
    (subst (λ l. Keeps l c2.locals) e1.locals one.grown.locals) from2)
    (seams.means (Branches jump (With c2.locals One) (With c4.locals Other)) (With new.locals (Branches jump One Other))
    c0.instrs new.instrs
    (λ c s t h fits. (h.0, h.1, h.2 (earlier c2.locals new.locals c from2 fits), h.3, h.4 (subst (λ l. Fits l c) same4 fits)))
    (jumps.branches jump (With c2.locals One) (With c4.locals Other) x y c0.instrs c1.instrs c2.instrs c3.instrs
    c4.instrs c5.instrs new.instrs e1.instrs (placed One c1 c2 one) e3.instrs (placed Other c3 c4 other) e5.instrs
    e6.instrs))
  where
    same4 : new.locals ≡ c4.locals
    same4 = e6.locals ∙ e5.locals

    from2 : Keeps c2.locals new.locals
    from2 =
        subst (λ l. Keeps c2.locals l) (sym same4)
        (subst (λ l. Keeps l c4.locals) e3.locals other.grown.locals)

-- A jump that ends the turns, patched, and one back.
pub turns : (Asks Body : Code → ℕ → ℕ → Type 0) (x : Instr) (c0 c1 c2 c3 c4 new : Emitter) → Emitted Asks c0 c1
    → Adds (x ∷ []) c1 c2 → Emitted Body c2 c3 → Adds (ins.Jump (length c0.instrs) ∷ []) c3 c4
    → Patched (length c1.instrs) (ins.Jfalse (length c4.instrs)) c4 new → Emitted (Turns Asks Body) c0 new
turns Asks Body x c0 c1 c2 c3 c4 new asks e2 body e4 e5 =
    emitted (Turns Asks Body) c0 new (keeps_trans c0.locals c1.locals new.locals asks.grown.locals from1)
    (seams.means (Turns (With c1.locals Asks) (With c3.locals Body)) (With new.locals (Turns Asks Body))
    c0.instrs new.instrs
    (λ c s t h fits. (h.0, h.1, h.2 (earlier c1.locals new.locals c from1 fits), h.3, h.4 (subst (λ l. Fits l c) same3 fits), h.5, h.6))
    (jumps.turns (With c1.locals Asks) (With c3.locals Body) x c0.instrs c1.instrs c2.instrs c3.instrs c4.instrs
    new.instrs (placed Asks c0 c1 asks) e2.instrs (placed Body c2 c3 body) e4.instrs e5.instrs))
  where
    same3 : new.locals ≡ c3.locals
    same3 = e5.locals ∙ e4.locals

    from1 : Keeps c1.locals new.locals
    from1 =
        subst (λ l. Keeps c1.locals l) (sym same3)
        (subst (λ l. Keeps l c3.locals) e2.locals body.grown.locals)
