-- The head of an ancillary packet (BT.1364), for any kind of packet: the ADF, the DID of a group from the kind's list,
-- the DC. Assumes nothing.
use Rattle.std.specs.Prelude.{ℕ, suc, ◌-◌, List, [], ◌∷◌, map, eqb, leb, length, get_or, Option, Some, None}
use Rattle.bits.specs.Pick.{pick, first}
use Rattle.answer.specs.Answer.{Answer, Answer.accepted}
use Rattle.answer.specs.Demand.{Demand, Demand.asks, provided}

-- the DID of a group from 1 on, of those listed
abbrev pub did_in : List ℕ → ℕ → ℕ
did_in dids group = get_or dids (group - 1) 0

-- the group of a DID word; 0 if it is none of those listed
abbrev pub group_in : List ℕ → ℕ → ℕ
group_in dids w = first (λ i. eqb w (get_or dids i 0)) 0 (length dids) suc 0

-- as an answer, which has none for 0
abbrev pub some_group : ℕ → Option ℕ
some_group group = pick (eqb group 0) None (Some group)

-- words and the value of each: 0 to 2 the ADF, 3 the DID, 5 the DC; word 4, the DBN, may have any
abbrev pub head_of : ℕ → ℕ → List (ℕ × ℕ)
head_of did dc = (0, 0x000) ∷ (1, 0x3FF) ∷ (2, 0x3FF) ∷ (3, did) ∷ (5, dc) ∷ []

-- those of a packet of this kind: the DID is that of the group that it names
abbrev pub head_in : List ℕ → ℕ → List ℕ → List (ℕ × ℕ)
head_in dids dc words = head_of (did_in dids (group_in dids (get_or words 3 0))) dc

-- each word has its value (13)
abbrev pub head_demands : List (ℕ × ℕ) → List ℕ → List Demand
head_demands head words = map (λ s. asks 13 s.0 (eqb (get_or words s.0 0) s.1)) head

-- the group that six words or more (1) name
unfoldable pub head_answer : List ℕ → ℕ → List ℕ → Answer ℕ
head_answer dids dc words =
    provided (asks 1 0 (leb 6 (length words)) ∷ head_demands (head_in dids dc words) words) (accepted (group_in dids (get_or words 3 0)))
