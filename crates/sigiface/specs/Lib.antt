pub mod StandIn
