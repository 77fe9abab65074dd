mod NewReplicas
mod TriedLists
