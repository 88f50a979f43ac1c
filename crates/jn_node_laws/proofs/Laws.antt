-- The nodes, together.
use Rattle.jn_sem.specs.State.{Heap, Frame}
use Rattle.jn_agree.specs.Follows.{Knows}
use Rattle.jn_node_laws.specs.LawsOfNodes.{NodesFollow}
use Rattle.jn_node_laws.proofs.Simple as simple
use Rattle.jn_node_laws.proofs.Variables as variables
use Rattle.jn_node_laws.proofs.Ends as ends
use Rattle.jn_node_laws.proofs.Chooses.{choose}
use Rattle.jn_node_laws.proofs.Operates.{operate}
use Rattle.jn_node_laws.proofs.Binds.{bind}
use Rattle.jn_node_laws.proofs.Assigns.{assign}
use Rattle.jn_node_laws.proofs.Supers.{bare_super}
use Rattle.jn_node_laws.proofs.Gets.{get}
use Rattle.jn_node_laws.proofs.Puts.{put}
use Rattle.jn_node_laws.proofs.Views.{view}
use Rattle.jn_node_laws.proofs.Calls.{call}
use Rattle.jn_node_laws.proofs.Prints.{print}
use Rattle.jn_node_laws.proofs.News.{make, takes_flat, narrowed}
use Rattle.jn_node_laws.proofs.Nodes.{narrow}
use Rattle.std.specs.Prelude.{ℕ, zero, suc, ◌+◌, List, [], Bool, Some, slice_get, ◌≡◌}
use Rattle.std.proofs.Common.{refl}
use Rattle.jn_base.specs.declared.tree.Program.{Program}
use Rattle.jn_code.specs.declared.image.Image.{Image}
use Rattle.jn_code.specs.declared.image.Code.{Code}
use Rattle.jn_sem.specs.Terms.{Site}
use Rattle.jn_sem.specs.Acts.{Todo}
use Rattle.jn_agree.specs.Naming.{Naming}
use Rattle.jn_node_laws.specs.Cont.{Cont, ContOn, with_result}
use Rattle.jn_node_laws.proofs.Decides.{decide}
use Rattle.jn_node_laws.proofs.Loops.{jump, loop}

-- with what a body gives, where all operands are the frame's
result_narrowed : (p : Program) (i : Image) (n : Naming) (m : ℕ) (K : Knows) (T : Type 0)
    (Stands : T → Frame → Heap → Type 0) (code : ℕ) (it : Code) (there : slice_get i.codes code ≡ Some it) (r : Frame)
    (keeps : Bool) (result b : ℕ) (here : Site) (t : T) (k : List Todo) (s w : ℕ) →
    Cont p i n m K T Stands code it r b here t k s w →
    ContOn p i n m K T Stands code it r (with_result keeps result []) b here t k s w
result_narrowed p i n m K T Stands code it there r keeps zero b here t k s w h = h
result_narrowed p i n m K T Stands code it there r keeps (suc c) b here t k s w h =
    narrowed p i n m K T Stands code it there r keeps b here t k s w h

pub follow : (K : Knows) (T : Type 0) (Stands : T → Frame → Heap → Type 0) → NodesFollow K T Stands
follow K T Stands p i n m code it r there rows =
    let less = narrow p i n m K T Stands code it there r in
    let part = result_narrowed p i n m K T Stands code it there r in
    record {
      number = λ b here u t k s w z at leads h. simple.number p i n m K T Stands code it there r [] b here u t k s w
          z at
          leads (less b here t k (s + 1) (20 + w) h);
      truth = λ b here u t k s w v at leads h. simple.truth_value p i n m K T Stands code it there r [] b here u t k
          s w v
          at leads (less b here t k (s + 1) (20 + w) h);
      null = λ b here u t k s w at leads h. simple.null p i n m K T Stands code it there r [] b here u t k s w at leads
          (less b here t k (s + 1) (20 + w) h);
      this = λ b here u t k s w at leads h. simple.this p i n m K T Stands code it there r [] b here u t k s w at leads
          (less b here t k (s + 1) (20 + w) h);
      invert = λ b here u t k s w at leads h. simple.invert p i n m K T Stands code it there r [] [] refl b here u t
          k s w
          at leads (less b here t k (s + 1) (20 + w) h);
      negate = λ b here u t k s w at leads h. simple.negate p i n m K T Stands code it there r [] [] refl b here u t
          k s w
          at leads (less b here t k (s + 1) (20 + w) h);
      print = print p i n m K T Stands code it there r;
      read = λ b here u t x v k s w is at leads h. variables.read p i n m K T Stands code it there r [] b here u t x
          v k s
          w is at leads (less b here t k (s + 1) (20 + w) h);
      operate = λ b here u t o kind k s e w at facts leads h. operate p i n m K T Stands code it there r [] [] [] refl
          refl b here u t o kind k s e w at facts leads (less b here t k e (20 + w) h);
      bind = bind p i n m K T Stands code it there r;
      assign = assign p i n m K T Stands code it there r;
      end = ends.end p i n m K T Stands code it there r;
      print_text = variables.print_text p i n m K T Stands code it there r;
      return_value = ends.return_value p i n m K T Stands code it there r;
      return_nothing = ends.return_nothing p i n m K T Stands code it there r;
      choose = choose p i n m K T Stands code it there r;
      get = λ b here u t field j kind k s w at sel facts leads h. get p i n m K T Stands code it there r rows [] []
          refl b
          here u t field j kind k s w at sel facts leads (less b here t k (s + 1) (20 + w) h);
      put = put p i n m K T Stands code it there r rows;
      view = λ b here u t v atom Y kx k s w is root cls fam at_cls at_conv leads h. view p i n m K T Stands code it
          there
          r rows [] [] refl b here u t v atom Y kx k s w is root cls fam at_cls at_conv leads
          (less b here t k (s + 1 + 1) (20 + w) h);
      call = λ b here u t name num keeps j shape k s e w at runs sel many facts leads h. call p i n m K T Stands code it
          there r rows [] [] [] b here u t name num keeps j shape k s e w at runs sel many (takes_flat num) refl facts
          leads (part keeps shape.result b here t k e (20 + w) h);
      bare_super = λ b here u t term name keeps B kx j shape k s e w bound classed first second third runs sel none
          bodies
          refers leads h. bare_super p i n m K T Stands code it there r rows [] b here u t term name keeps B kx j
          shape k
          s e w bound classed first second third runs sel none bodies refers leads
          (part keeps shape.result b here t k e (20 + w) h);
      make = make p i n m K T Stands code it there r;
      decide = λ b here u if_so if_not and e k s t w first second leads so not_so. decide p i n m K T Stands code it
          there
          r [] [] refl b here u if_so if_not and e k s t w first second leads so (less b here if_not k (t + 1) (20 + w)
          not_so);
      jump = jump p i n m K T Stands code it there r;
      loop = loop p i n m K T Stands code it there r;
    }
