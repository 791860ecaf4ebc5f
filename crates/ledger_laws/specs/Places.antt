-- The cells of each node, and how many commits lie in them together. The lists of commits have the newest first.
use Rattle.std.specs.Prelude.{◌≡◌, ℕ, List, [], ◌∷◌, ◌++◌, All, Contains, count_by, sum_by, map}
use Rattle.std.specs.List.{range_with_len}
use Rattle.bench_base.specs.declared.{words.Node.Node, words.Node.TheVariants.Device, words.Node.TheVariants.Centre, words.Node.TheVariants.Host, words.Node.TheVariants.Verifier, ledger.Commit.Commit}
use Rattle.bench_base.specs.Nodes.{node_of}
use Rattle.bench_base.specs.Cells.{Place, OfDevice, OfRow, OfCustomer, OfJob, OfTrust, OfBlock, same_place, place_of, commits_at}
use Rattle.bench_base.specs.Ledger.{count_of}
use Rattle.bench_base.specs.Scans.{blocks}

-- the node that has the place in its storage
abbrev pub node_at : Place → Node
node_at (OfDevice d) = Device d
node_at (OfRow d) = Centre
node_at (OfCustomer c) = Centre
node_at (OfJob j) = Host
node_at (OfTrust d) = Verifier
node_at (OfBlock d b) = Verifier

-- how many commits lie in these places together
abbrev pub commits_in : List Place → List Commit → ℕ
commits_in places C = sum_by (λ place. commits_at place C) places

-- these are places of the node, each once, and each of its commits lies in one of them
pub record Hold (n : Node) (places : List Place) (C : List Commit) : Type 0 where
  pub own : All (λ place. node_at place ≡ n) places
  pub once : All (λ place. count_by (same_place place) places ≡ 1) places
  pub each : All (λ c. node_of c ≡ n → Contains places (place_of c)) C

-- what lies in them adds up to the node's commits
abbrev pub PlacesAddUp : Type 0
PlacesAddUp = (n : Node) (places : List Place) (C : List Commit) → Hold n places C → commits_in places C ≡ count_of n C

-- a device's one cell
abbrev pub device_places : ℕ → List Place
device_places d = OfDevice d ∷ []

-- the centre's cells of devices 1 to 8 and of customers 1 to 64
unfoldable pub centre_places : List Place
centre_places = map OfRow (range_with_len 1 8) ++ map OfCustomer (range_with_len 1 64)

-- the host's 1,024 cells
unfoldable pub host_places : List Place
host_places = map OfJob (range_with_len 0 1024)

abbrev pub block_cell : ℕ × ℕ → Place
block_cell block = OfBlock block.0 block.1

-- the verifier's cells of devices 1 to 8, and those of the blocks in use
unfoldable pub verifier_places : List Commit → List Place
verifier_places C = map OfTrust (range_with_len 1 8) ++ map block_cell (blocks C)

-- the counts of a node's cells add up to its commits
pub record CellsAddUp (C : List Commit) : Type 0 where
  pub devices : (d : ℕ) → commits_in (device_places d) C ≡ count_of (Device d) C
  pub centre : commits_in centre_places C ≡ count_of Centre C
  pub host : commits_in host_places C ≡ count_of Host C
  pub verifier : commits_in (verifier_places C) C ≡ count_of Verifier C
