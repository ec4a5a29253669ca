-- `madi_write::check_frame` meets its contract: each way out is a demand of the definition. Assumes nothing.
use mathlib.Core.Path.{◌≡◌, refl, sym, subst, ◌∙◌}
use mathlib.Core.Bool.{Bool, true, false, ◌&&◌}
use mathlib.Core.List.{List, ◌∷◌}
use Prim.Native.Nat.{ℕ, ◌≤◌, ◌<◌}
use native.Mathlib.Omega.{arith}
use borrow.Author.Tests.{leb-true, le-leb, lt-leb}
use lib.Dec.{leb}
use lib.ListN.{length}
use Rattle.bits.proofs.Tests.{both_true}
use Rattle.answer.specs.Answer.{Answer.accepted}
use Rattle.answer.specs.Demand.{Demand, Stops, AllMet, ◌&◌}
use Rattle.answer.specs.Demand.Stops.{fails, later}
use Rattle.answer.proofs.Chains.{stopped, passes_on}
use Rattle.madi_code.specs.Frame.{counted}
use Rattle.madi_code.proofs.FrameLaws.{counted-le}
use Rattle.madi_write.specs.Writer.{is_list, argument_demands, channel_word_demands}
use Rattle.madi_write.proofs.Checks.{le-leb-is, list_of}
use Rattle.madi_write.proofs.check_frame.Goals as goal
use Rattle.madi_write.proofs.check_frame.Goals.{After-contains, Else-not-is_list}

-- the channel count is right, and what the range says of the words
counts : (c : After-contains) → counted c.args.channels ≡ true
counts c = sym c.is_counted.ensures ∙ c.if-not-is_counted.false

room_for : (c : After-contains) → let n = length c.args.words.now in c.contains.result ≡ (leb 1 n && leb n c.args.channels)
room_for c =
    let n = length c.args.words.now in
    rw (c.contains.ensures.value, c.new.ensures.start, c.new.ensures.end, c.new.ensures.exhausted, le-leb-is 1 n, le-leb-is n c.args.channels)

one-fails : (t u : Bool) {ds : List Demand} → (t && u) ≡ false → Stops (Demand.asks 2 0 t ∷ Demand.asks 2 0 u ∷ ds) 2 0
one-fails true u e = later refl (fails e)
one-fails false u e = fails refl

some : (c : After-contains) → c.contains.result ≡ true → let n = length c.args.words.now in (leb 1 n ≡ true) × (leb n c.args.channels ≡ true)
some c e = let n = length c.args.words.now in both_true (leb 1 n) (leb n c.args.channels) (sym (room_for c) ∙ e)

lists : (c : Else-not-is_list) → is_list c.args.commands.now ≡ true
lists c = sym c.is_list.ensures ∙ c.if-not-is_list.false

pub returns-then-not-is_counted : goal.returns-then-not-is_counted
returns-then-not-is_counted c = sym (stopped (accepted tt) (fails (sym c.is_counted.ensures ∙ c.if-not-is_counted.true)))

pub returns-then-not-contains : goal.returns-then-not-contains
returns-then-not-contains c =
    let k = (goal.at.returns-then-not-contains c).After-contains in
    let n = length c.args.words.now in
    sym (stopped (accepted tt) (later (counts k) (one-fails (leb 1 n) (leb n c.args.channels) (sym (room_for k) ∙ c.if-not-contains.true))))

pub returns-then-not-is_list : goal.returns-then-not-is_list
returns-then-not-is_list c =
    let k = (goal.at.returns-then-not-is_list c).After-contains in
    let r = some k c.if-not-contains.false in
    sym (stopped (accepted tt) (later (counts k) (later r.0 (later r.1 (fails (sym c.is_list.ensures ∙ c.if-not-is_list.true))))))

pub returns-then-level-gt1 : goal.returns-then-level-gt1
returns-then-level-gt1 c =
    let k = (goal.at.returns-then-level-gt1 c).After-contains in
    let f = (goal.at.returns-then-level-gt1 c).Else-not-is_list in
    let r = some k f.if-not-contains.false in
    sym (stopped (accepted tt) (later (counts k) (later r.0 (later r.1 (later (lists f) (fails (lt-leb _ _ c.if-level-gt1.true)))))))

pub octets_needed-requires : goal.octets_needed-requires
octets_needed-requires c =
    let f = (goal.at.octets_needed-requires c).Else-not-is_list in
    (counted-le c.args.channels (counts (goal.at.octets_needed-requires c).After-contains), (list_of c.args.commands.now (lists f)).0)

pub returns-then-room-octets_needed : goal.returns-then-room-octets_needed
returns-then-room-octets_needed c =
    let k = (goal.at.returns-then-room-octets_needed c).After-contains in
    let f = (goal.at.returns-then-room-octets_needed c).Else-not-is_list in
    let r = some k f.if-not-contains.false in
    sym (stopped (accepted tt) (later (counts k) (later r.0 (later r.1 (later (lists f) (later (le-leb _ _ c.if-level-gt1.false)
    (fails (lt-leb _ _ (subst (λ (m : ℕ). c.args.room < m) c.octets_needed.ensures c.if-room-octets_needed.true)))))))))

pub check_words-requires : goal.check_words-requires
check_words-requires c =
    let k = (goal.at.check_words-requires c).After-contains in
    let r = some k c.if-not-contains.false in
    omega (arith, counted-le c.args.channels (counts k), leb-true (length c.args.words.now) c.args.channels r.1)

pub returns : goal.returns
returns c =
    let k = (goal.at.returns c).After-contains in
    let f = (goal.at.returns c).Else-not-is_list in
    let r = some k f.if-not-contains.false in
    let a = k.args in
    let ds = argument_demands a.channels (length a.words.now) a.commands.now a.level a.room in
    let met : AllMet ds =
    counts k & r.0 & r.1 & lists f & le-leb _ _ c.if-level-gt1.false
    & le-leb _ _ (subst (λ (m : ℕ). m ≤ a.room) c.octets_needed.ensures c.if-room-octets_needed.false) & tt in
    c.check_words.ensures ∙ sym (passes_on (accepted tt) ds (channel_word_demands a.words.now) met)
