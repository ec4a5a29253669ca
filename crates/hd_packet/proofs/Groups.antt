-- DID and group: each names the other, and the words of the head are those of their low octets. Assumes nothing.
use mathlib.Core.Path.{◌≡◌, refl}
use Prim.Native.Nat.{ℕ, ◌-◌, ◌%◌, ◌^◌, ◌≤◌}
use lib.Count.{ones}
use Rattle.bits.specs.Pick.{first}
use Rattle.anc.specs.Word.{word_of}
use Rattle.anc.proofs.Heads.{each-group, in_full, full-word}
use Rattle.hd_packet.specs.Packet.{did, dc, group_of_did}

pub did-octet : (group : ℕ) → 1 ≤ group → group ≤ 4 → 0xE8 - group ≡ did group % 2 ^ 8
did-octet = each-group (λ g. 0xE8 - g) (λ g. did g % 2 ^ 8) tt

pub did-group : (group : ℕ) → 1 ≤ group → group ≤ 4 → group_of_did (did group) ≡ group
unfolding first
did-group = each-group (λ g. group_of_did (did g)) (λ g. g) tt

-- ---- b8 and b9 of DID and DC are by the rule

did-full : (group : ℕ) → 1 ≤ group → group ≤ 4 → in_full (did group) ≡ did group
unfolding ones
did-full = each-group (λ g. in_full (did g)) did tt

pub did-word : (group : ℕ) → 1 ≤ group → group ≤ 4 → word_of (did group % 2 ^ 8) ≡ did group
did-word group h l = full-word (did group) (did-full group h l)

pub dc-word : word_of (dc % 2 ^ 8) ≡ dc
unfolding ones
dc-word = full-word dc refl
