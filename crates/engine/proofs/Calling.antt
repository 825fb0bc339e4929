-- A step from the live bytes: No. 23, 21, or what a letter of the program does. Assumes nothing.
use Prim.Native.Nat.{ℕ}
use mathlib.Core.Path.{◌≡◌, sym, ap, ◌∙◌}
use mathlib.Core.Bool.{Bool}
use mathlib.Core.List.{List, []}
use mathlib.Core.Option.{Option, none, some}
use Rattle.paper.specs.Lists.{chosen}
use Rattle.paper.specs.Rewriting.{Letter}
use Rattle.paper.specs.Reaction.{Program, State}
use Rattle.paper.specs.File.{accepted}
use Rattle.paper.specs.Calls.{Lived, eight, not_lived, letter_of, reacted, stepped}
use Rattle.react.specs.declared.State.{State as Kept}
use Rattle.react.specs.States.{state_of}
use Rattle.coding.specs.Code.{decode, coding}
use Rattle.coding.proofs.Coded.{code_decode}
use Rattle.unpack.specs.Unpacking.{Of, Decoded}
use Rattle.engine.specs.declared.Answer.{Answer}
use Rattle.engine.specs.Live.{outcome, Loaded, Kinds, Stated, reacted_to}
use Rattle.engine.proofs.Names.{letter-among}
use Rattle.engine.proofs.Going.{refused_as}

pub of : (q : Program) (P ms es : List ℕ) (fs : List Bool) → Loaded q P ms es → Kinds q fs → Of q P ms es fs
of q P ms es fs d k = record { fit = d.fit; nodes_are = d.nodes_are; modules_are = d.its.modules_are; events_are = d.its.events_are; fugitive_are = k }

module _ (q : Program) (b : List ℕ) (letter : ℕ) where
  decoded : (o : Option State) → decode q b ≡ o → stepped coding (accepted q) letter b ≡ chosen o (λ x. not_lived 23 0 b) (λ s. reacted coding q s letter b)
  decoded o e = ap (λ (x : Option State). chosen x (λ y. not_lived 23 0 b) (λ s. reacted coding q s letter b)) e

  pub unfound : decode q b ≡ none → (r : Answer) → (r.number ≡ 23) × ((r.place ≡ 0) × (r.orders ≡ eight [])) → outcome r b ≡ stepped coding (accepted q) letter b
  unfound f r a = refused_as r b 23 0 a ∙ sym (decoded none f)

  module _ (P ms W : List ℕ) (found : Kept) (h : Decoded q P W ms b found) where
    lettered : (o : Option Letter) → o ≡ letter_of q letter → stepped coding (accepted q) letter b ≡ chosen o (λ x. not_lived 21 0 b) (λ l. reacted_to q l (state_of P W ms found) b)
    unfolding reacted
    lettered o e =
        decoded (some (state_of P W ms found)) h.is
        ∙ ap (λ (x : Option Letter). chosen x (λ y. not_lived 21 0 b) (λ l. reacted_to q l (state_of P W ms found) b)) (sym e)

    pub foreign : none ≡ letter_of q letter → (r : Answer) → (r.number ≡ 21) × ((r.place ≡ 0) × (r.orders ≡ eight [])) → outcome r b ≡ stepped coding (accepted q) letter b
    foreign e r a = refused_as r b 21 0 a ∙ sym (lettered none e)

    pub stated : (l : Letter) → some l ≡ letter_of q letter → Stated q P ms W found l
    stated l e = record {
      written = (code_decode q b (state_of P W ms found) h.is).0;
      among = letter-among q letter l e;
    }

    pub own : (l : Letter) → some l ≡ letter_of q letter → (x : Lived) → x ≡ reacted_to q l (state_of P W ms found) b → x ≡ stepped coding (accepted q) letter b
    own l e x d = d ∙ sym (lettered (some l) e)
