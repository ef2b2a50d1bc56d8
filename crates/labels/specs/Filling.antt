-- What holds while regions are labelled: the contracts of the functions inside `label_planes`. Definitions only. Assumes nothing.
use Rattle.std.specs.Prelude.{ℕ, zero, suc, ◌+◌, ◌-◌, ◌*◌, ◌≤◌, ◌<◌, ◌≡◌, ◌⊎◌, ◌↔◌, Bool, true, ◌&&◌, cond, List, eqb, leb, ltb, ℤ, length, set, get_or, Option, Some}
use Rattle.base.specs.Places.{table, count}
use Rattle.rules.specs.Regions.{opaque, link, roots, root, first}
use Rattle.rules.specs.Masks.{label_at}
use Rattle.grid.specs.declared.Neighbourhood.{Neighbourhood}
use Rattle.grid.specs.Steps.{neighbours}
use Rattle.grid.specs.Planes.{plane, cells_of, group_at, end_of}
use Rattle.labels.specs.declared.Tally.{Tally}

-- at most 514 rows and columns, and a work area of eight planes
pub record Sized (h w : ℕ) (work : List ℕ) : Type 0 where
  pub rows : h ≤ 514
  pub cols : w ≤ 514
  pub planes : 8 * (h * w) ≤ length work

-- a word of the work area as labelling sees it: in plane 1 a word beyond every label is none
unfoldable pub shown : ℕ → ℕ → ℕ → ℕ
shown n i v = cond (ltb 264196 v && (leb n i && ltb i (2 * n))) 0 v

-- the work area as labelling sees it
unfoldable pub seen : ℕ → List ℕ → List ℕ
seen n work = table (length work) (λ i. shown n i (get_or work i 0))

-- plane 1 holds labels, and for an opaque place without one its paint, beyond every label
pub record Coded (n : ℕ) (work : List ℕ) : Type 0 where
  pub small : (p : ℕ) → p < n → plane n 0 work p ≤ 2147483648
  pub word : (p : ℕ) → p < n → ((plane n 1 work p ≤ 264196) × (plane n 1 work p ≡ 0 → plane n 0 work p ≡ 0)) ⊎ ((plane n 1 work p ≡ plane n 0 work p + 264196) × (0 < plane n 0 work p))

-- how many places have no label
unfoldable pub blanks : ℕ → List ℕ → ℕ
blanks n work = count n (λ p. eqb (plane n 1 work p) 0)

-- the work area once the place q has the label m and stands in the order at i
abbrev pub joined : ℕ → ℕ → ℕ → ℕ → List ℕ → List ℕ
joined n q m i work = set (set work (n + q) m) (2 * n + i) q

-- the labels given so far are right and at most `regions`; the neighbours of one index of a labelled place are labelled, except that an open place may still want some
pub record Right (adj : ℕ → ℕ → Bool) (cells : List ℤ) (n : ℕ) (work : List ℕ) (regions : ℕ) (Open : ℕ → Type 0) : Type 0 where
  pub most : (p : ℕ) → p < n → plane n 1 work p ≤ regions
  pub right : (p : ℕ) → p < n → (plane n 1 work p ≡ 0 → ⊥) → plane n 1 work p ≡ label_at n adj cells p
  pub closed : (p q : ℕ) → p < n → q < n → (plane n 1 work p ≡ 0 → ⊥) → link adj cells p q ≡ true → (plane n 1 work q ≡ 0 → ⊥) ⊎ Open p

-- the first `taken` places of the order are those with a label, region after region
pub record Ordered (n : ℕ) (work : List ℕ) (taken : ℕ) : Type 0 where
  pub free : taken + blanks n work ≤ n
  pub placed : (i : ℕ) → i < taken → (plane n 2 work i < n) × (1 ≤ group_at n work i)
  pub sorted : (i j : ℕ) → i ≤ j → j < taken → group_at n work i ≤ group_at n work j
  pub distinct : (i j : ℕ) → i < j → j < taken → plane n 2 work i ≡ plane n 2 work j → ⊥
  pub listed : (p : ℕ) → p < n → (plane n 1 work p ≡ 0 → ⊥) → (i : ℕ) × (i < taken) × (plane n 2 work i ≡ p)

-- the regions up to `done` have their ends, and each of the regions begins with its first cell
pub record Ended (adj : ℕ → ℕ → Bool) (cells : List ℤ) (n : ℕ) (work : List ℕ) (done regions taken : ℕ) : Type 0 where
  pub limits : (k : ℕ) → k ≤ done → end_of n work k ≤ taken
  pub ends : (k : ℕ) → k ≤ done → (i : ℕ) → i < taken → (group_at n work i ≤ k) ↔ (i < end_of n work k)
  pub begun : (k : ℕ) → k < regions → end_of n work k < taken
  pub foremost : (k : ℕ) → k < regions → root n adj cells (plane n 2 work (end_of n work k)) ≡ plane n 2 work (end_of n work k)

-- all of it, for the sheet in plane 0
pub record Filled (h w : ℕ) (near : Neighbourhood) (work : List ℕ) (done : ℕ) (t : Tally) (Open : ℕ → Type 0) : Type 0 where
  pub sized : Sized h w work
  pub labels : Right (neighbours near w) (cells_of (h * w) work) (h * w) work t.regions Open
  pub order : Ordered (h * w) work t.taken
  pub ended : Ended (neighbours near w) (cells_of (h * w) work) (h * w) work done t.regions t.taken
  pub under : t.regions ≤ t.taken

-- no place is open
abbrev pub Shut : ℕ → Type 0
Shut p = ⊥

-- a place waits in the order, from head on
pub record Waits (n : ℕ) (work : List ℕ) (head taken p : ℕ) : Type 0 where
  pub at : ℕ
  pub low : head ≤ at
  pub high : at < taken
  pub is : plane n 2 work at ≡ p

-- the last region is being filled, and what waits is open
pub record Flood (h w : ℕ) (near : Neighbourhood) (work : List ℕ) (head : ℕ) (t : Tally) : Type 0 where
  pub filled : Filled h w near work (t.regions - 1) t (Waits (h * w) work head t.taken)
  pub wait : (i : ℕ) → head ≤ i → i < t.taken → group_at (h * w) work i ≡ t.regions
  pub some : 1 ≤ t.regions

-- the last region is s alone, which waits at head, and every opaque place before s has a label
pub record Begun (h w : ℕ) (near : Neighbourhood) (work : List ℕ) (s head : ℕ) (t : Tally) : Type 0 where
  pub flood : Flood h w near work head t
  pub last : t.taken ≡ head + 1
  pub is : plane (h * w) 2 work head ≡ s
  pub before : (p : ℕ) → p < s → opaque (cells_of (h * w) work) p ≡ true → plane (h * w) 1 work p ≡ 0 → ⊥

-- no neighbour after s has the word in plane 1
pub record Alone (n w : ℕ) (near : Neighbourhood) (work : List ℕ) (s word : ℕ) : Type 0 where
  pub none : (q : ℕ) → s < q → neighbours near w s q ≡ true → plane n 1 work q ≡ word → ⊥

-- all that waits has one paint
pub record Tinted (n : ℕ) (work : List ℕ) (head taken paint : ℕ) : Type 0 where
  pub alike : (i : ℕ) → head ≤ i → i < taken → plane n 0 work (plane n 2 work i) ≡ paint

-- every opaque place before s has a label, and the regions are those whose first cell comes before s
pub record LabelledTo (h w : ℕ) (near : Neighbourhood) (work : List ℕ) (t : Tally) (s : ℕ) : Type 0 where
  pub labelled : (p : ℕ) → p < s → opaque (cells_of (h * w) work) p ≡ true → plane (h * w) 1 work p ≡ 0 → ⊥
  pub number : t.regions ≡ count s (first (cells_of (h * w) work) (roots (h * w) (neighbours near w) (cells_of (h * w) work)))

-- the planes 0 and 4 to 7 are kept
pub record PlanesKept (n : ℕ) (old new : List ℕ) : Type 0 where
  pub size : length new ≡ length old
  pub others : (j p : ℕ) → (j ≡ 0) ⊎ (4 ≤ j) → p < n → plane n j new p ≡ plane n j old p

-- labels are kept once given
pub record Since (n : ℕ) (old new : List ℕ) : Type 0 where
  pub kept : PlanesKept n old new
  pub given : (p : ℕ) → p < n → (plane n 1 old p ≡ 0 → ⊥) → plane n 1 new p ≡ plane n 1 old p

-- what one step does that finds a cell or none, from a cell of that paint
pub data Visited (n : ℕ) (found : Option ℕ) (paint : ℕ) (work : List ℕ) (t : Tally) : List ℕ → Tally → Type 0 where
  kept : ((q : ℕ) → found ≡ Some q → plane n 0 work q ≡ paint → plane n 1 work q ≡ 0 → ⊥) → Visited n found paint work t work t
  took : (q : ℕ) → found ≡ Some q → plane n 0 work q ≡ paint → plane n 1 work q ≡ 0 →
      Visited n found paint work t (joined n q t.regions t.taken work) (record { regions = t.regions; taken = t.taken + 1 })

-- the word of a place without a label: 0 for no paint, and otherwise its paint beyond every label
unfoldable pub word_of : ℕ → ℕ
word_of zero = 0
word_of (suc i) = suc i + 264196

-- the first k places have no label, and all else is as it was
pub record Cleared (n k : ℕ) (old new : List ℕ) : Type 0 where
  pub size : length new ≡ length old
  pub word : (p : ℕ) → p < k → plane n 1 new p ≡ word_of (plane n 0 old p)
  pub others : (j p : ℕ) → (j ≡ 1 → ⊥) → p < n → plane n j new p ≡ plane n j old p
