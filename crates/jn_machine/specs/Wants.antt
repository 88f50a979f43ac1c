-- What each instruction has to find in its frame and among the cells.
use Rattle.std.specs.Prelude.{◌<◌, List, length, ℤ, drop}
use Rattle.jn_code.specs.declared.instr.Instr.{Instr}
use Rattle.jn_code.specs.declared.instr.Instr.TheVariants as op
use Rattle.jn_code.specs.declared.image.Image.{Image}
use Rattle.jn_machine.specs.declared.frame.Frame.{Frame}
use Rattle.jn_machine.specs.Needs.{HasRoom, Has, OnTop, Below, IsClass, HasGroup, Reaches}
use Rattle.jn_machine.specs.Calls.{HasArgs, IsView, HasReceiver}

abbrev pub Wants : Image → Instr → Frame → List ℤ → Type 0
Wants i (op.Int z) f h = HasRoom f.vals
Wants i (op.Bool b) f h = HasRoom f.vals
Wants i op.Null f h = HasRoom f.vals
Wants i (op.Cls k) f h = HasRoom f.vals
Wants i (op.Load x) f h = HasRoom f.vals × (x < length f.vars.words)
Wants i (op.Store x) f h = Has 1 f.vals × (x < length f.vars.words)
Wants i op.Pop f h = Has 1 f.vals
Wants i op.Add f h = Has 2 f.vals
Wants i op.Sub f h = Has 2 f.vals
Wants i op.Mul f h = Has 2 f.vals
Wants i op.Div f h = Has 2 f.vals
Wants i op.Rem f h = Has 2 f.vals
Wants i op.Neg f h = Has 1 f.vals
Wants i op.Lt f h = Has 2 f.vals
Wants i op.Le f h = Has 2 f.vals
Wants i op.Gt f h = Has 2 f.vals
Wants i op.Ge f h = Has 2 f.vals
Wants i op.Eqi f h = Has 2 f.vals
Wants i op.Eqb f h = Has 2 f.vals
Wants i op.Eqr f h = Has 2 f.vals
Wants i op.Not f h = Has 1 f.vals
Wants i (op.Jump t) f h = Unit {0}
Wants i (op.Jfalse t) f h = Has 1 f.vals
Wants i (op.Jtrue t) f h = Has 1 f.vals
Wants i op.Viewof f h = Has 1 f.vals
Wants i (op.Up n) f h = Has 1 f.vals
Wants i (op.Down name) f h = Has 1 f.vals × OnTop (IsClass i) f.vals.words
Wants i op.New f h = Has 1 f.vals × OnTop (HasGroup i) f.vals.words
Wants i (op.Ctor s) f h = Has 1 f.vals × OnTop (IsView i) f.vals.words × HasArgs i s 0 (drop 1 f.vals.words)
Wants i (op.Call s) f h = HasArgs i s 1 f.vals.words × HasReceiver i s f.vals.words
Wants i (op.Callat s) f h =
    Has 1 f.vals × OnTop (IsClass i) f.vals.words × HasArgs i s 1 (drop 1 f.vals.words) × HasReceiver i s (drop 1 f.vals.words)
Wants i (op.Get s) f h = Has 1 f.vals × OnTop (Reaches i h s) f.vals.words × (s < length i.fields)
Wants i (op.Put s) f h = Has 2 f.vals × Below (Reaches i h s) f.vals.words
Wants i op.Conv f h = Has 2 f.vals × OnTop (IsClass i) f.vals.words
Wants i op.Check f h = Has 1 f.vals
Wants i op.Printi f h = Has 1 f.vals
Wants i op.Printb f h = Has 1 f.vals
Wants i (op.Printt t) f h = t < length i.texts
Wants i op.Ret f h = Unit {0}
Wants i op.Retv f h = Has 1 f.vals
