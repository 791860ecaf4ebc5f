-- Which node a commit belongs to.
use Rattle.std.specs.Prelude.{ℕ, Bool, true, false, ◌==◌}
use Rattle.bench_base.specs.declared.{words.Node.Node, words.Node.TheVariants.Device, words.Node.TheVariants.Centre, words.Node.TheVariants.Host, words.Node.TheVariants.Verifier, ledger.Commit.Commit, ledger.Commit.TheVariants.Made, ledger.Commit.TheVariants.Asked, ledger.Commit.TheVariants.Applied, ledger.Commit.TheVariants.Debited, ledger.Commit.TheVariants.Registered, ledger.Commit.TheVariants.Opened, ledger.Commit.TheVariants.Deposited, ledger.Commit.TheVariants.Flagged, ledger.Commit.TheVariants.Ruled, ledger.Commit.TheVariants.Settled, ledger.Commit.TheVariants.Ordered, ledger.Commit.TheVariants.Held, ledger.Commit.TheVariants.Began, ledger.Commit.TheVariants.Closed, ledger.Commit.TheVariants.Trusted, ledger.Commit.TheVariants.Accepted}

-- the node is this device
abbrev pub is_device : ℕ → Node → Bool
is_device d (Device e) = d == e
is_device d Centre = false
is_device d Host = false
is_device d Verifier = false

-- the node is the centre
abbrev pub is_centre : Node → Bool
is_centre (Device d) = false
is_centre Centre = true
is_centre Host = false
is_centre Verifier = false

-- the node is the host
abbrev pub is_host : Node → Bool
is_host (Device d) = false
is_host Centre = false
is_host Host = true
is_host Verifier = false

-- the node is the verifier
abbrev pub is_verifier : Node → Bool
is_verifier (Device d) = false
is_verifier Centre = false
is_verifier Host = false
is_verifier Verifier = true

-- whether the two are one node
abbrev pub same_node : Node → Node → Bool
same_node (Device d) n = is_device d n
same_node Centre n = is_centre n
same_node Host n = is_host n
same_node Verifier n = is_verifier n

-- the node that the commit changes
abbrev pub node_of : Commit → Node
node_of (Made d key) = Device d
node_of (Asked d n request) = Device d
node_of (Applied d n verdict) = Device d
node_of (Debited d piece postage class day version) = Device d
node_of (Registered d origin key) = Centre
node_of (Opened c) = Centre
node_of (Deposited c receipt amount) = Centre
node_of (Flagged c suspended) = Centre
node_of (Ruled d n verdict request) = Centre
node_of (Settled d n) = Centre
node_of (Ordered j d piece postage class) = Host
node_of (Held j mark) = Host
node_of (Began j) = Host
node_of (Closed j) = Host
node_of (Trusted d key) = Verifier
node_of (Accepted d piece scan) = Verifier
