-- What the reader answers after each of its checks, from what the check answers. Assumes nothing.
use mathlib.Core.Path.{◌≡◌, sym, ap, ◌∙◌}
use mathlib.Core.Bool.{true}
use mathlib.Core.List.{List, [], ◌∷◌, ◌++◌}
use Prim.Native.Nat.{ℕ, ◌≤◌}
use native.Mathlib.Omega.{arith}
use borrow.Author.Tests.{eq-eqb, ne_eqb}
use lib.Dec.{eqb}
use lib.ListN.{length, get_or}
use Rattle.answer.specs.Answer.{Answer.accepted, Answer.refused}
use Rattle.answer.specs.Demand.{Demand, Demand.asks, Demand.finds_none, AllMet, ◌&◌, Stops}
use Rattle.answer.specs.Demand.Stops.{fails, later}
use Rattle.answer.proofs.Chains.{met, stops, stopped, passing, extended, further, both-met}
use Rattle.anc.specs.Word.{wide_at, wrong_at}
use Rattle.anc.specs.Head.{group_in, head_demands, head_answer}
use Rattle.anc.specs.Enclosed.{sum_stands, enclosed_demands}
use Rattle.anc.proofs.Heads.{head_read, head-refused}
use Rattle.hd_control.specs.Control.{control_dids, control_dc, control_head, rule_of, control_in}
use Rattle.hd_control.specs.Read.{state_demands, read_demands, read_answer}
use Rattle.hd_control.specs.Inner.{checked}
use Rattle.hd_control.proofs.ControlLaws.{group-in}

pub other-length : (ws : List ℕ) → (length ws ≡ 18 → ⊥) → refused 1 0 ≡ read_answer ws
unfolding read_answer
other-length ws n = sym (stopped _ (fails (ne_eqb _ 18 n)))

-- of 18 words that stand in an array, as they were passed
module _ (passed ws : List ℕ) (same : ws ≡ passed) (long : length passed ≡ 18) where
  abbrev wide : Demand
  wide = finds_none 14 (wide_at ws) 0 (length ws)

  abbrev head : List Demand
  head = head_demands (control_head ws) ws

  abbrev rules : Demand
  rules = finds_none 14 (wrong_at rule_of ws) 3 14

  abbrev sum : Demand
  sum = asks 16 17 (sum_stands 14 ws)

  size : eqb (length ws) 18 ≡ true
  size = eq-eqb _ 18 (ap length same ∙ long)

  six : 6 ≤ length ws
  six = omega (arith, ap length same, long)

  refuses : {number place : ℕ} → Stops (read_demands ws) number place → refused number place ≡ read_answer passed
  unfolding read_answer
  refuses s = sym (stopped _ s) ∙ ap read_answer same

  pub wide-refused : {number place : ℕ} → refused number place ≡ checked (wide ∷ [])
      → refused number place ≡ read_answer passed
  wide-refused e =
      refuses (later size (extended (extended (stops tt (wide ∷ []) _ _ (sym e)) (head ++ (rules ∷ sum ∷ []))) (state_demands ws)))

  -- words of ten bits each
  module _ (w : accepted tt ≡ checked (wide ∷ [])) where
    narrow : AllMet (wide ∷ [])
    narrow = (met tt (wide ∷ []) (sym w)).0

    pub head-no : {number place : ℕ} → refused number place ≡ head_answer control_dids control_dc ws
        → refused number place ≡ read_answer passed
    head-no e =
        refuses (later size (later narrow.0
        (extended (extended (head-refused control_dids control_dc ws six e) (rules ∷ sum ∷ [])) (state_demands ws))))

    -- with the head of a group
    module _ {group : ℕ} (g : accepted group ≡ head_answer control_dids control_dc ws) where
      named : AllMet head × (group_in control_dids (get_or ws 3 0) ≡ group)
      named = head_read control_dids control_dc ws six g

      pub group-is : group ≡ (control_in ws).group
      group-is = sym (group-in ws ∙ named.1)

      pub rules-refused : {number place : ℕ} → refused number place ≡ checked (rules ∷ [])
          → refused number place ≡ read_answer passed
      rules-refused e =
          refuses (later size (later narrow.0
          (extended (further head named.0 (extended (stops tt (rules ∷ []) _ _ (sym e)) (sum ∷ []))) (state_demands ws))))

      -- whose b8 and b9 are right
      module _ (r : accepted tt ≡ checked (rules ∷ [])) where
        right : AllMet (rules ∷ [])
        right = (met tt (rules ∷ []) (sym r)).0

        pub sum-refused : {number place : ℕ} → refused number place ≡ checked (sum ∷ [])
            → refused number place ≡ read_answer passed
        sum-refused e =
            refuses (later size (later narrow.0
            (extended (further head named.0 (later right.0 (stops tt (sum ∷ []) _ _ (sym e)))) (state_demands ws))))

        -- with a right CS
        module _ (s : accepted tt ≡ checked (sum ∷ [])) where
          enclosed : AllMet (enclosed_demands rule_of 14 (control_head ws) ws)
          enclosed = narrow.0 & both-met head (rules ∷ sum ∷ []) named.0 (right.0 & (met tt (sum ∷ []) (sym s)).0.0 & tt)

          pub states-refused : {number place : ℕ} → refused number place ≡ checked (state_demands ws)
              → refused number place ≡ read_answer passed
          states-refused e =
              refuses (later size (further (enclosed_demands rule_of 14 (control_head ws) ws) enclosed
              (stops tt (state_demands ws) _ _ (sym e))))

          pub all-read : accepted tt ≡ checked (state_demands ws) → accepted (control_in ws) ≡ read_answer passed
          unfolding read_answer
          all-read e =
              sym (passing (accepted (control_in ws)) (read_demands ws)
              (size & both-met (enclosed_demands rule_of 14 (control_head ws) ws) (state_demands ws) enclosed
              (met tt (state_demands ws) (sym e)).0)) ∙ ap read_answer same
