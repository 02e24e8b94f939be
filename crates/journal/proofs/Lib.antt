mod Counted
mod Cuts
mod Ended
mod Reopening
mod Replaying
mod Settled
mod Spelled
