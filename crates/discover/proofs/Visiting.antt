-- The turn of a state that lies in the working slice: its bytes are its code, so what they are unpacked to is the state. Assumes nothing.
use Prim.Native.Nat.{ℕ, zero, suc, ◌+◌, ◌-◌, ◌*◌, ◌≤◌, ◌<◌}
use mathlib.Core.Path.{◌≡◌, refl, sym, ap, subst, ◌∙◌}
use mathlib.Core.Bool.{Bool}
use mathlib.Core.List.{List, [], ◌∷◌, map}
use mathlib.Core.Option.{Option, none, some}
use native.Mathlib.Omega.{arith}
use native.Mathlib.Nat.{mul-le-mul, add-mul}
use lib.Dec.{ltb}
use lib.ListN.{length, get_or, take, drop, length-drop, length-map}
use lib.Seq.{length-take-le}
use Rattle.paper.specs.Reaction.{Program, State}
use Rattle.paper.specs.Refusals.{most_parts, parts_of}
use Rattle.paper.proofs.Choices.{clash}
use Rattle.paper.proofs.Equal.{eq_s-refl}
use Rattle.laws.proofs.Members.{Has, has-head, has-tail}
use Rattle.rewrite.specs.Steps.{state}
use Rattle.react.specs.declared.State.{State as Kept}
use Rattle.react.specs.States.{state_of}
use Rattle.coding.specs.Written.{Written}
use Rattle.coding.specs.Code.{code, decode}
use Rattle.coding.proofs.Fit.{Fit}
use Rattle.coding.proofs.Coded.{decode_code}
use Rattle.parts.specs.Parts.{capped}
use Rattle.parts.proofs.Capped.{capped-over}
use Rattle.slots.specs.Slots.{block, number_in}
use Rattle.unpack.specs.Unpacking.{Decoded}
use Rattle.discover.specs.declared.Turned.{Turned}
use Rattle.discover.specs.Finding.{Numbered, Seen, Turns, Visited}
use Rattle.discover.proofs.Arriving.{number-code}

-- the entries of 512 states have room
pub rows-room : (k n : ℕ) → k < 512 → n ≤ 16 → k * n + n ≤ 8192
rows-room k n h l =
    let m : k + 1 ≤ 512 = omega arith in
    let a : (k + 1) * n ≤ 512 * 16 = mul-le-mul m l in
    let b : (k + 1) * n ≡ k * n + 1 * n = add-mul k 1 n in
    omega arith

-- the part of the working slice that is handed over is a block
pub part-block : (K : List ℕ) (k : ℕ) → take (128 * k + 128 - 128 * k) (drop (128 * k) K) ≡ block K k
part-block K k = let z : 128 * k + 128 - 128 * k ≡ 128 = omega arith in ap (λ (n : ℕ). take n (drop (128 * k) K)) z

pub part-long : (K : List ℕ) (k : ℕ) → 65536 ≤ length K → k < 512 → length (take (128 * k + 128 - 128 * k) (drop (128 * k) K)) ≡ 128
part-long K k h l = ap length (part-block K k) ∙ length-take-le 128 (drop (128 * k) K) (omega (arith, length-drop (128 * k) K))

has-drop : (k : ℕ) (ss : List State) (x : State) (rest : List State) → drop k ss ≡ x ∷ rest → Has x ss
has-drop zero ss x rest e = subst (Has x) (sym e) (has-head x x rest (eq_s-refl x))
has-drop (suc k) [] x rest e = clash (cc)
has-drop (suc k) (s ∷ ss) x rest e = has-tail x s ss (has-drop k ss x rest e)

code-drop : (f : State → List ℕ) (k : ℕ) (ss : List State) (x : State) (rest : List State) → drop k ss ≡ x ∷ rest → get_or (map f ss) k [] ≡ f x
code-drop f zero [] x rest e = clash (cc)
code-drop f zero (s ∷ ss) x rest e = ap f (ap (λ (l : List State). get_or l 0 x) e)
code-drop f (suc k) [] x rest e = clash (cc)
code-drop f (suc k) (s ∷ ss) x rest e = code-drop f k ss x rest e

drop-short : (k : ℕ) (ss : List State) (x : State) (rest : List State) → drop k ss ≡ x ∷ rest → k < length ss
drop-short k ss x rest e = omega (arith, ap length e, length-drop k ss)

-- the state whose turn it is
pub turn-state : (k : ℕ) (ss : List State) → k < length ss → (x : State) × (drop k ss ≡ x ∷ drop (suc k) ss)
turn-state zero [] h = absurd (omega arith)
turn-state zero (s ∷ ss) h = (s, refl)
turn-state (suc k) [] h = absurd (omega arith)
turn-state (suc k) (s ∷ ss) h = turn-state k ss (omega arith)

module _ (q : Program) (f : Fit q) (K X : List ℕ) (ss : List State) (seen : Seen q K X ss) (k : ℕ) (x : State) (rest : List State) (e : drop k ss ≡ x ∷ rest) where
  pub its-block : block K k ≡ code q x
  its-block = seen.held.blocks k (omega (arith, drop-short k ss x rest e, length-map ss (code q))) ∙ code-drop (code q) k ss x rest e

  pub its-written : Written q x
  its-written = seen.written x (has-drop k ss x rest e)

  its-number : Numbered x ss k
  its-number =
      let h = drop-short k ss x rest e in (
        sym (number-code q f x ss its-written seen.written)
            ∙ (ap (λ (b : List ℕ). number_in b (map (code q) ss)) (sym (code-drop (code q) k ss x rest e)) ∙ seen.held.once k (omega (arith, length-map ss (code q)))),
        h,
      )

  module _ (b : List ℕ) (c : b ≡ block K k) where
    decodes : decode q b ≡ some x
    decodes = ap (decode q) (c ∙ its-block) ∙ decode_code q f x its-written

    pub not_none : decode q b ≡ none → ⊥
    not_none e = none-some (sym e ∙ decodes)
      where
        none-some : ◌≡◌ {A = Option State} none (some x) → ⊥
        none-some h = clash (cc)

    module _ (P ms W : List ℕ) (kept : Kept) (d : Decoded q P W ms b kept) where
      its-state : state_of P W ms kept ≡ x
      its-state = some_same (sym d.is ∙ decodes)
        where
          some_same : {s t : State} → ◌≡◌ {A = Option State} (some s) (some t) → s ≡ t
          some_same h = cc

      pub state-written : Written q (state_of P W ms kept)
      state-written = subst (Written q) (sym its-state) its-written

      pub state-number : Numbered (state_of P W ms kept) ss k
      state-number = subst (λ (s : State). Numbered s ss k) (sym its-state) its-number

      parts-over : (n : ℕ) → n ≡ capped (parts_of (state P W kept.start)) → ltb 8192 n ≡ ltb most_parts (parts_of x.left)
      parts-over n h =
          ap (ltb 8192) h
          ∙ (capped-over (parts_of (state P W kept.start)) ∙ ap (λ (s : State). ltb 8192 (parts_of s.left)) its-state)

      its-turns : (K' X' E F : List ℕ) (at : ℕ) (over : Bool) (n : ℕ) → Turns q (state_of P W ms kept) ss K' X' E F at over n → Turns q x ss K' X' E F at over n
      its-turns K' X' E F at over n t = subst (λ (s : State). Turns q s ss K' X' E F at over n) its-state t

      pub visited : (n : ℕ) → n ≡ capped (parts_of (state P W kept.start)) → (K' X' E F : List ℕ) (at : ℕ) (t : Turned) → Turns q (state_of P W ms kept) ss K' X' E F at t.over t.count → Visited q x ss K' X' E F at (record { over = t.over; large = ltb 8192 n; count = t.count })
      visited n h K' X' E F at t r = record { turns = its-turns K' X' E F at t.over t.count r; large_is = λ o. parts-over n h }
