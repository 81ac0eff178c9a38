-- The names of the members of the object that `/health` shows.
use Rattle.std.specs.Prelude.{codes}
use Rattle.status.specs.declared.member.Member.{Member}
use Rattle.status.specs.declared.member.Member.TheVariants as member
use Rattle.status.specs.Samples.{Text}

unfoldable pub member_text : Member → Text
member_text member.ClusterId = codes "cluster_id"
member_text member.ClusterName = codes "cluster_name"
member_text member.Connections = codes "connections"
member_text member.Initialized = codes "initialized"
member_text member.LastFault = codes "last_fault"
member_text member.PerformanceStandby = codes "performance_standby"
member_text member.ReplicationDrMode = codes "replication_dr_mode"
member_text member.ReplicationPerformanceMode = codes "replication_performance_mode"
member_text member.Sealed = codes "sealed"
member_text member.ServerTimeUtc = codes "server_time_utc"
member_text member.Since = codes "since"
member_text member.Standby = codes "standby"
member_text member.State = codes "state"
member_text member.Store = codes "store"
member_text member.Uptime = codes "uptime"
member_text member.Version = codes "version"

infix 80 ◌⟼◌
-- a member: its name and its value
abbrev pub ◌⟼◌ : Member → Text → Text × Text
m ⟼ value = (member_text m, value)
