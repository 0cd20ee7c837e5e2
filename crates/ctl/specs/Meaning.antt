-- What a formula means at a node of a snapshot, over maximal paths. No algorithm is in it. Assumes nothing.
use Rattle.std.specs.Prelude.{ℕ, suc, ◌≤◌, ◌<◌, ◌≡◌, ◌⊎◌, true}
use Rattle.ctl.specs.Formula.{Form, tru, fls, lit, nlit, and, or, ex, ax, eu, au, er, ar}
use Rattle.ctl.specs.Modes.{has_mode}
use Rattle.ctl.specs.Raw.{Raw}
use Rattle.ctl.specs.Snapshot.{Snapshot, step}

-- some mode of A leads from node i to node j
abbrev pub Leads : Snapshot → ℕ → ℕ → ℕ → Type 0
Leads s A i j = (m : ℕ) × (m < 16) × (has_mode A m ≡ true) × (step s m i j ≡ true)

-- A path over R from node i: a chain of R-steps that cannot be lengthened. It is infinite, or it ends at a node from which R leads nowhere.
pub data MaxPath (R : ℕ → ℕ → Type 0) (i : ℕ) : Type 0 where
  infinite : (node : ℕ → ℕ) → node 0 ≡ i → ((k : ℕ) → R (node k) (node (suc k))) → MaxPath R i
  finite : (last : ℕ) (node : ℕ → ℕ) → node 0 ≡ i → ((k : ℕ) → k < last → R (node k) (node (suc k))) → ((j : ℕ) → ¬ R (node last) j) → MaxPath R i

-- node j is at place k of the path; places count from 0
abbrev pub At : {R : ℕ → ℕ → Type 0} {i : ℕ} → MaxPath R i → ℕ → ℕ → Type 0
At (infinite node start steps) k j = node k ≡ j
At (finite last node start steps end) k j = (k ≤ last) × (node k ≡ j)

module _ {R : ℕ → ℕ → Type 0} {i : ℕ} (P Q : ℕ → Type 0) (π : MaxPath R i) where
  -- pUq: q at some place, and p at all earlier places
  abbrev pub Until : Type 0
  Until = (k : ℕ) × (j : ℕ) × At π k j × Q j × ((k' j' : ℕ) → k' < k → At π k' j' → P j')

  -- pRq: wherever q fails, p held strictly earlier
  abbrev pub Release : Type 0
  Release = (k j : ℕ) → At π k j → ¬ Q j → (k' : ℕ) × (j' : ℕ) × (k' < k) × At π k' j' × P j'

-- The path quantifiers over R, for properties P and Q of nodes
module _ (R : ℕ → ℕ → Type 0) where
  abbrev pub EX : (ℕ → Type 0) → ℕ → Type 0
  EX P i = (j : ℕ) × R i j × P j

  abbrev pub AX : (ℕ → Type 0) → ℕ → Type 0
  AX P i = (j : ℕ) → R i j → P j

  abbrev pub EU : (ℕ → Type 0) → (ℕ → Type 0) → ℕ → Type 0
  EU P Q i = (π : MaxPath R i) × Until P Q π

  abbrev pub AU : (ℕ → Type 0) → (ℕ → Type 0) → ℕ → Type 0
  AU P Q i = (π : MaxPath R i) → Until P Q π

  abbrev pub ER : (ℕ → Type 0) → (ℕ → Type 0) → ℕ → Type 0
  ER P Q i = (π : MaxPath R i) × Release P Q π

  abbrev pub AR : (ℕ → Type 0) → (ℕ → Type 0) → ℕ → Type 0
  AR P Q i = (π : MaxPath R i) → Release P Q π

-- The formula holds at node i of the snapshot.
unfoldable pub Holds : Snapshot → Form → ℕ → Type 0
Holds s tru i = Unit {0}
Holds s fls i = ⊥
Holds s (lit k) i = s.on k i ≡ true
Holds s (nlit k) i = ¬ (s.on k i ≡ true)
Holds s (and p q) i = Holds s p i × Holds s q i
Holds s (or p q) i = Holds s p i ⊎ Holds s q i
Holds s (ex A p) i = EX (Leads s A) (Holds s p) i
Holds s (ax A p) i = AX (Leads s A) (Holds s p) i
Holds s (eu A p q) i = EU (Leads s A) (Holds s p) (Holds s q) i
Holds s (au A p q) i = AU (Leads s A) (Holds s p) (Holds s q) i
Holds s (er A p q) i = ER (Leads s A) (Holds s p) (Holds s q) i
Holds s (ar A p q) i = AR (Leads s A) (Holds s p) (Holds s q) i

-- The formula as typed holds at node i. EF q is 1Uq and EG q is 0Rq, on some path; AF and AG likewise on every path.
unfoldable pub HoldsRaw : Snapshot → Raw → ℕ → Type 0
HoldsRaw s Raw.zero i = ⊥
HoldsRaw s Raw.one i = Unit {0}
HoldsRaw s (Raw.sym k) i = s.on k i ≡ true
HoldsRaw s (Raw.neg p) i = ¬ HoldsRaw s p i
HoldsRaw s (Raw.and p q) i = HoldsRaw s p i × HoldsRaw s q i
HoldsRaw s (Raw.or p q) i = HoldsRaw s p i ⊎ HoldsRaw s q i
HoldsRaw s (Raw.imp p q) i = HoldsRaw s p i → HoldsRaw s q i
HoldsRaw s (Raw.ex A p) i = EX (Leads s A) (HoldsRaw s p) i
HoldsRaw s (Raw.ax A p) i = AX (Leads s A) (HoldsRaw s p) i
HoldsRaw s (Raw.ef A q) i = EU (Leads s A) (λ j. Unit {0}) (HoldsRaw s q) i
HoldsRaw s (Raw.af A q) i = AU (Leads s A) (λ j. Unit {0}) (HoldsRaw s q) i
HoldsRaw s (Raw.eg A q) i = ER (Leads s A) (λ j. ⊥) (HoldsRaw s q) i
HoldsRaw s (Raw.ag A q) i = AR (Leads s A) (λ j. ⊥) (HoldsRaw s q) i
HoldsRaw s (Raw.eu A p q) i = EU (Leads s A) (HoldsRaw s p) (HoldsRaw s q) i
HoldsRaw s (Raw.au A p q) i = AU (Leads s A) (HoldsRaw s p) (HoldsRaw s q) i
HoldsRaw s (Raw.er A p q) i = ER (Leads s A) (HoldsRaw s p) (HoldsRaw s q) i
HoldsRaw s (Raw.ar A p q) i = AR (Leads s A) (HoldsRaw s p) (HoldsRaw s q) i
