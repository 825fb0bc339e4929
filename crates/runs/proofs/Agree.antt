-- Over every sequence of letter bytes the live run is the rules' run: the same numbers, orders and live bytes at every step, refusals with them.
-- Assumes nothing.
--     runs-agree            from the code of any state of the written set
--     from-the-start        from what the live start leaves
--     goes_on               the rules' run over more bytes goes on from the state after the first ones
--     reached               and that state is reachable, where the first was (as the start is)
use Prim.Native.Nat.{ℕ}
use mathlib.Core.Bool.{Bool, true, false, cond}
use mathlib.Core.List.{List, [], ◌∷◌, ◌++◌}
use mathlib.Core.Option.{Option, none, some}
use mathlib.Core.Path.{◌≡◌, refl, sym, ap, ◌∙◌}
use lib.Dec.{T}
use lib.ListN.{length}
use borrow.Author.Tests.{eq-eqb}
use Rattle.paper.specs.Lists.{chosen}
use Rattle.paper.specs.Parse.{parse}
use Rattle.paper.specs.File.{Answer, accepted}
use Rattle.paper.specs.Rewriting.{Letter}
use Rattle.paper.specs.Reaction.{Program, State, start_of, possible, reaction}
use Rattle.paper.specs.Discovery.{Among, letters, Reach, next}
use Rattle.paper.specs.Refusals.{adaptive, reading}
use Rattle.paper.specs.Calls.{Coding, Lived, not_lived, lives_on, begun, stepped, letter_of, reacted, live_start, live_step}
use Rattle.paper.proofs.Choices.{by-option}
use Rattle.laws.proofs.Letters.{by_cond}
use Rattle.coding.specs.Written.{Written}
use Rattle.coding.specs.Code.{code, coding}
use Rattle.coding.proofs.Found.{holds}
use Rattle.coding.proofs.Coded.{code_long, decode_code}
use Rattle.coding.proofs.Closed.{start_in, step_in}
use Rattle.coding.proofs.Accepted.{accepted-fit}
use Rattle.engine.proofs.Names.{letter-among}
use Rattle.runs.specs.Run.{live_run, next_state, after, rules_run}

-- ---- one byte

module _ (q : Program) (s : State) (b : ℕ) where
  -- what holds of s and of every reaction to a possible letter holds of the state after the byte
  next-keeps : (P : State → Type 0) → P s → ((l : Letter) → Among l (letters q) → T (possible l s) → P (reaction q l s).state) → P (next_state q s b)
  unfolding next_state
  next-keeps P x f =
      by-option P (letter_of q b) _ _ (λ e. x)
      (λ l e. by_cond P (possible l s) _ _ (λ d. f l (letter-among q b l (sym e)) (holds (possible l s) d)) (λ d. x))

  -- a step leaves the code of the state after the byte
  leaves : (reacted coding q s b (code q s)).live ≡ code q (next_state q s b)
  unfolding reacted next_state
  leaves = by-letter (letter_of q b)
    where
      by-possible : (l : Letter) (t : Bool) → (cond t (lives_on (reaction q l s).does (code q (reaction q l s).state)) (not_lived 22 0 (code q s))).live ≡ code q (cond t (reaction q l s).state s)
      by-possible l true = refl
      by-possible l false = refl

      by-letter : (o : Option Letter)
          → (chosen o (λ u. not_lived 21 0 (code q s)) (λ l. cond (possible l s) (lives_on (reaction q l s).does (code q (reaction q l s).state)) (not_lived 22 0 (code q s)))).live
          ≡ code q (chosen o (λ u. s) (λ l. cond (possible l s) (reaction q l s).state s))
      by-letter none = refl
      by-letter (some l) = by-possible l (possible l s)

-- ---- all of them

-- a run over more bytes goes on from the state after the first ones
pub goes_on : (q : Program) (c : Coding) (s : State) (bs ds : List ℕ) → rules_run q c s (bs ++ ds) ≡ rules_run q c s bs ++ rules_run q c (after q s bs) ds
unfolding rules_run after
goes_on q c s [] ds = refl
goes_on q c s (b ∷ bs) ds = ap (λ (xs : List Lived). reacted c q s b (c.code q s) ∷ xs) (goes_on q c (next_state q s b) bs ds)

pub reached : (q : Program) (s : State) → Reach q s → (bs : List ℕ) → Reach q (after q s bs)
unfolding after
reached q s r [] = r
reached q s r (b ∷ bs) = reached q (next_state q s b) (next-keeps q s b (Reach q) r (λ l a t. next l a t r)) bs

module _ (file : List ℕ) (q : Program) (e : reading parse adaptive file ≡ accepted q) where
  steps : (s : State) → Written q s → (b : ℕ) → live_step parse coding file (code q s) b ≡ reacted coding q s b (code q s)
  unfolding live_step
  steps s w b =
      ap (λ (t : Bool). cond t (stepped coding (reading parse adaptive file) b (code q s)) (not_lived 1 0 (code q s))) (eq-eqb (length (code q s)) 128 (code_long q s))
      ∙ (ap (λ (a : Answer Program). stepped coding a b (code q s)) e
      ∙ ap (λ (o : Option State). chosen o (λ u. not_lived 23 0 (code q s)) (λ t. reacted coding q t b (code q s))) (decode_code q (accepted-fit file q e) s w))

  pub runs-agree : (s : State) → Written q s → (bs : List ℕ) → live_run parse coding file (code q s) bs ≡ rules_run q coding s bs
  unfolding live_run rules_run
  runs-agree s w [] = refl
  runs-agree s w (b ∷ bs) =
      let r = reacted coding q s b (code q s) in
      let v = next-keeps q s b (Written q) w (λ l a t. step_in q (accepted-fit file q e) s l w a) in
      ap (λ (x : Lived). x ∷ live_run parse coding file x.live bs) (steps s w b)
      ∙ (ap (λ (x : List ℕ). r ∷ live_run parse coding file x bs) (leaves q s b)
      ∙ ap (λ (xs : List Lived). r ∷ xs) (runs-agree (next_state q s b) v bs))

  pub start-agrees : (live : List ℕ) → length live ≡ 128 → (live_start parse coding file live).live ≡ code q (start_of q)
  unfolding live_start
  start-agrees live h =
      ap (λ (t : Bool). (cond t (begun coding (reading parse adaptive file) live) (not_lived 1 0 live)).live) (eq-eqb (length live) 128 h)
      ∙ ap (λ (a : Answer Program). (begun coding a live).live) e

  pub from-the-start : (live : List ℕ) → length live ≡ 128 → (bs : List ℕ) → live_run parse coding file (live_start parse coding file live).live bs ≡ rules_run q coding (start_of q) bs
  from-the-start live h bs =
      ap (λ (x : List ℕ). live_run parse coding file x bs) (start-agrees live h) ∙ runs-agree (start_of q) (start_in q (accepted-fit file q e)) bs
